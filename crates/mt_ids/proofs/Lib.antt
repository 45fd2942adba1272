pub mod DigitFacts
pub mod IdFacts
pub mod KindFacts
pub mod SeedFacts
pub mod SetFacts
pub mod WordFacts
