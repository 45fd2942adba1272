pub mod BitFacts
pub mod Flags
pub mod TableFacts
