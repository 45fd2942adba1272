pub mod ChunkFacts
pub mod RowFacts
pub mod FlatListsFacts
