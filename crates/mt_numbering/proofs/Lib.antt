pub mod FilterFacts
pub mod WithdrawalFacts
pub mod EntryFacts
pub mod NumberingTables
pub mod MarketFacts
pub mod AcceptedFacts
