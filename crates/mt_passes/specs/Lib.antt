pub mod Registers
pub mod Passes
pub mod Seeds
