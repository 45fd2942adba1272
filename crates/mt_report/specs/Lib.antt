pub mod Drains
pub mod Status
pub mod Names
pub mod Aside
