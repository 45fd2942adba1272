pub mod PageFacts
pub mod NameFacts
