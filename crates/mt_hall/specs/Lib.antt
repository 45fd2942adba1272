pub mod Answers
pub mod Audits
