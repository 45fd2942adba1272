pub mod Pairs
pub mod Verdict
