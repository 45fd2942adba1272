pub mod Batches
pub mod IdLists
pub mod Pieces
pub mod Places
