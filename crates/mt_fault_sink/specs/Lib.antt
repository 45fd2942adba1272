pub mod Seen
pub mod Telling
