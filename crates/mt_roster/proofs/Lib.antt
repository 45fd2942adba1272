pub mod ReadFacts
pub mod FaultFacts
