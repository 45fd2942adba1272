pub mod AppendFacts
pub mod IdFacts
