pub mod CountFacts
pub mod FindingFacts
pub mod OptionFacts
