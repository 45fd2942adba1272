pub mod ChoiceLemmas
pub mod ExclusionLemmas
pub mod FloorChoices
pub mod ListLemmas
pub mod Seats
pub mod SinglesFacts
pub mod TakenLemmas
pub mod WellFormedLemmas
