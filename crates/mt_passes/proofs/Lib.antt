pub mod CountFacts
pub mod FaultFacts
pub mod PairFacts
pub mod PassFacts
pub mod RegisterFacts
pub mod RepeatFacts
pub mod UnknownFacts
