pub mod AddedFacts
pub mod NoKindFacts
pub mod PartsFacts
pub mod RecordFacts
pub mod SearchFacts
pub mod StandingFacts
