pub mod Flags
pub mod Named
pub mod Indexing
pub mod Programs
pub mod Ranks
pub mod View
pub mod Waiting
