pub mod AgentsOf
pub mod EndFacts
pub mod EntryFacts
pub mod FormedFacts
pub mod OrderFacts
pub mod OrderLists
pub mod RegistrationFacts
pub mod StableFacts
