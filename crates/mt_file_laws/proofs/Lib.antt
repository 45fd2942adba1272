pub mod FaultFacts
pub mod FaultlessFacts
pub mod NumberingFacts
pub mod PassFacts
pub mod RefusalLine
pub mod RegisteredFacts
pub mod VersionFacts
