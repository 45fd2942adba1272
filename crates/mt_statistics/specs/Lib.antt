pub mod Counts
pub mod View
pub mod Held
pub mod Laws
