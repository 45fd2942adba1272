pub mod Answer
pub mod Refusals
pub mod Ways
pub mod WayLaws
