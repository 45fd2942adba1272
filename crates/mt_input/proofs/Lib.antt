pub mod FileFacts
pub mod LeftFacts
pub mod MarketFacts
