pub mod WayFacts
