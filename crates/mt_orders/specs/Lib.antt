pub mod Fewest
pub mod Laws
pub mod Tried
pub mod Without
