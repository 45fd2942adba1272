pub mod EntryFacts
pub mod LiveFacts
pub mod MarketFacts
pub mod MoveFacts
pub mod MoveSteps
pub mod RankFacts
pub mod SentFacts
pub mod TableFacts
