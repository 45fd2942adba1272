pub mod Looking
pub mod Returning
pub mod Running
pub mod Waiting
