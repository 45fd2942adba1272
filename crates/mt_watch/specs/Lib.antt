pub mod Found
pub mod Posts
pub mod Watching
