pub mod NameFacts
pub mod DraftFacts
pub mod CoupleFacts
