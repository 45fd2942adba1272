pub mod Seen
pub mod Names
pub mod NoKind
pub mod Registered
pub mod Repeated
pub mod Standing
