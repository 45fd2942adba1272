pub mod Kinds
pub mod Seeds
pub mod Sets
pub mod Words
