pub mod Here
pub mod Text
pub mod View
