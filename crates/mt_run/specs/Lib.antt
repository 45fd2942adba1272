pub mod Unmatched
