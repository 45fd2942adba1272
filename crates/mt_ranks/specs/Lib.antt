pub mod Entries
pub mod Packed
pub mod Stamps
pub mod Parts
pub mod Ranked
pub mod Rows
pub mod RowsView
pub mod View
