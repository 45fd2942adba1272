pub mod Faults
pub mod Read
