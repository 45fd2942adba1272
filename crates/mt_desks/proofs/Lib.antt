pub mod Applying
pub mod Keeping
pub mod Meeting
pub mod Openings
