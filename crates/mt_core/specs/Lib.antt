pub mod Calls
pub mod Desks
pub mod Ends
pub mod Entries
pub mod Examples
pub mod Floors
pub mod FloorsView
pub mod Order
