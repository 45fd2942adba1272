pub mod Bodies
pub mod Fields
pub mod Records
pub mod Refusals
pub mod Limits
