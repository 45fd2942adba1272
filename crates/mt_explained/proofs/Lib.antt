pub mod GivenFacts
pub mod LineFacts
pub mod AskedFacts
pub mod AnswerFacts
