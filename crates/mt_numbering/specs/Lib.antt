pub mod Registered
pub mod Withdrawals
pub mod Numbered
pub mod Reading
pub mod Sides
pub mod Markets
