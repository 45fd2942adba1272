pub mod FirstPassFacts
pub mod GrowthFacts
pub mod IdFacts
