pub mod CommandLine
pub mod Laws
pub mod Examples
