pub mod Ended
pub mod Reaching
