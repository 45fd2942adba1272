pub mod AppendsFacts
pub mod LineFacts
pub mod CountFacts
