pub mod AgentFacts
pub mod AsideFacts
