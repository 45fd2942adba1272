pub mod Faultless
pub mod Staying
