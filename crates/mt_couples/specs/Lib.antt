pub mod Ended
pub mod Rechecks
pub mod Staged
