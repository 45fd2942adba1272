pub mod TablesFacts
