pub mod Text
pub mod Findings
pub mod View
