pub mod Tap
pub mod Records
pub mod Lines
pub mod Sources
pub mod Rows
pub mod Examples
