pub mod ListFacts
pub mod MetFacts
pub mod ReadingSteps
pub mod ChunkFacts
