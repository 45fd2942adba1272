pub mod ChunkedLists
pub mod FlatLists
pub mod GrowingLists
