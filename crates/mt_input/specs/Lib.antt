pub mod Files
pub mod Left
pub mod Refusals
