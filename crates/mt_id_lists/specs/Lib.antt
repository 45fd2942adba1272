pub mod Met
pub mod Numbering
pub mod Reading
