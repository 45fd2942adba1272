pub mod ListFacts
pub mod OpenFacts
pub mod LineFacts
pub mod FindingFacts
pub mod SizeFacts
pub mod WritingFacts
pub mod LoopFacts
pub mod AnswerFacts
