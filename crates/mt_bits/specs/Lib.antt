pub mod Flags
pub mod Members
pub mod Tables
pub mod View
