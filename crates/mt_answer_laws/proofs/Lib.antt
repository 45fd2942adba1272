pub mod PublishedFacts
pub mod CalledStable
pub mod FileLawFacts
pub mod PublishedAlone
