pub mod BatchFacts
pub mod NumberFacts
pub mod PieceFacts
