pub mod Pieces
pub mod Charts
pub mod Page
pub mod Laws
