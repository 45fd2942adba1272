pub mod ExitFacts
pub mod WordFacts
pub mod AskedFacts
pub mod CodeFacts
