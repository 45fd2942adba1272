pub mod LineFacts
pub mod OptionFacts
pub mod LawFacts
