pub mod EndFacts
pub mod ScanFacts
pub mod SplitFacts
pub mod PlaceFacts
pub mod MarkFacts
