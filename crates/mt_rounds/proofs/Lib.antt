pub mod EnteringFacts
pub mod JoinFacts
pub mod LookFacts
pub mod QuietFacts
pub mod ReturningFacts
pub mod RoundFacts
