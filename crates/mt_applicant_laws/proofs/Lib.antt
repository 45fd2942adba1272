pub mod ByEvents
pub mod EasierMarkets
pub mod Fronts
pub mod ListChanges
