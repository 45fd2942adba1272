pub mod Events
pub mod Markets
pub mod Registration
pub mod RegistrationText
pub mod Rounds
pub mod Stability
pub mod Text
