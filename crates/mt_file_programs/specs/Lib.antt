pub mod CommandLine
pub mod Unasked
pub mod Exit
pub mod Status
