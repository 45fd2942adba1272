pub mod Asked
pub mod Text
pub mod Answer
pub mod Found
pub mod Headline
pub mod Laws
pub mod View
