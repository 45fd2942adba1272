pub mod Accepted
pub mod Complete
pub mod Reasons
