pub mod SumFacts
pub mod HeldFacts
pub mod LaterFacts
