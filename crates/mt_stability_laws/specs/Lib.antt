pub mod Singles
pub mod Taken
