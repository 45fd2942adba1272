pub mod ApartFacts
pub mod DraftFacts
pub mod KnownFacts
pub mod StayingFacts
