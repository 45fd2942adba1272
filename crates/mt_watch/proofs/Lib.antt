pub mod AskFacts
pub mod FoundFacts
pub mod IndexFacts
pub mod OpenFacts
pub mod PostFacts
pub mod WatchFacts
