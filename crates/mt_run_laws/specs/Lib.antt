pub mod Headline
pub mod Answer
pub mod Laws
pub mod Refusals
pub mod Examples
pub mod Ways
pub mod WayLaws
