pub mod StatusFacts
