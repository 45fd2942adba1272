pub mod Text
pub mod Files
pub mod Refusals
pub mod Answer
pub mod Uses
