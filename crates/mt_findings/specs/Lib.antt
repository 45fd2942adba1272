pub mod Findings
pub mod Text
pub mod Writing
pub mod Headline
pub mod Answer
pub mod Laws
