pub mod AnswerLemmas
pub mod ExampleLemmas
pub mod FaultFacts
pub mod HeadlineLemmas
pub mod WayFacts
