pub mod ColumnFacts
pub mod MarketFacts
pub mod PlaceFacts
