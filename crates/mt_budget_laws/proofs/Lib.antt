pub mod ReturningFacts
pub mod RoundsCounted
