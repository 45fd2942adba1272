pub mod Assigned
pub mod Blocking
pub mod Moves
pub mod View
pub mod Watched
