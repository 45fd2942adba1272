pub mod FaultFacts
pub mod PlaceFacts
pub mod ReadingFacts
pub mod AgentFacts
