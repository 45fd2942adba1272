pub mod Reordered
pub mod Orders
pub mod Aside
pub mod Examples
pub mod Laws
