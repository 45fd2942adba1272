pub mod AsideFacts
pub mod InWaysFacts
pub mod MatchFacts
pub mod NameFacts
pub mod RefusalFacts
pub mod SinglesFacts
pub mod WayFacts
