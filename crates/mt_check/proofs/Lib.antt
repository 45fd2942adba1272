pub mod LineFacts
pub mod AnswerFacts
