pub mod Names
pub mod Drafts
