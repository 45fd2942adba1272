pub mod Faults
pub mod Registration
pub mod Text
