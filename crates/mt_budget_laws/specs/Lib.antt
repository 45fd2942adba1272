pub mod Budget
pub mod Returning
