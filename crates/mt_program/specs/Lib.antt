pub mod CommandLine
pub mod Told
pub mod Unasked
pub mod Reasons
