pub mod Faults
pub mod Parts
pub mod OfRecord
pub mod OfFile
pub mod Examples
