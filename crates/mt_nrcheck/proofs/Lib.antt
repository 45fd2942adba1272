pub mod StatusFacts
pub mod AskedFacts
