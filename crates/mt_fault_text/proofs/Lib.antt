pub mod EntryFacts
pub mod MutualFacts
pub mod LineFacts
pub mod NamedFacts
pub mod PageFacts
pub mod AnswerFacts
pub mod FoundFacts
pub mod SaysFacts
