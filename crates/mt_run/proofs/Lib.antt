pub mod UnmatchedFacts
