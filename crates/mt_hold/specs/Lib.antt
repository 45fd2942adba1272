pub mod Ends
pub mod Holding
pub mod Inside
pub mod Laws
pub mod Replies
pub mod Settled
