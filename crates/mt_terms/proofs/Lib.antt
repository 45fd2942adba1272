pub mod AgentFacts
pub mod BelowFacts
pub mod IdFacts
pub mod ListFacts
pub mod LiveFacts
pub mod Totals
