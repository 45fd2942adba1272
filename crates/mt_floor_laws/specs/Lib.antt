pub mod Floors
pub mod Live
pub mod Rural
