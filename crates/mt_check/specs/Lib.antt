pub mod Headline
pub mod Answer
pub mod Laws
