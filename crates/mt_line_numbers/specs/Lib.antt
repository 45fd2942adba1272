pub mod LineEnds
pub mod Records
pub mod Within
pub mod Inside
pub mod Laws
pub mod Examples
