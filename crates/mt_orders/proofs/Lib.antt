pub mod AsideCouples
pub mod FewestFacts
pub mod GoingOnFacts
pub mod MarketFacts
pub mod ShuffleFacts
pub mod TriedFacts
pub mod WithoutFacts
