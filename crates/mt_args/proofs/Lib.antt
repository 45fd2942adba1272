pub mod Agreement
pub mod OptionReads
pub mod ParsedFacts
