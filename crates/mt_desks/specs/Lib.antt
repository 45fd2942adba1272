pub mod Openings
pub mod Parts
pub mod Singles
pub mod Steps
