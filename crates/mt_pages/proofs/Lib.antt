pub mod SendingFacts
