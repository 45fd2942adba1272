pub mod Submitted
pub mod Marks
pub mod Errors
pub mod View
pub mod Reading
pub mod Laws
pub mod Examples
pub mod Agents
