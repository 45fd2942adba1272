pub mod NeighbourFacts
pub mod PairSteps
