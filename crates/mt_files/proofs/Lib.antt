pub mod FileFacts
pub mod NameFacts
pub mod TapFacts
pub mod BothFacts
