pub mod Text
pub mod Refusals
pub mod Answer
