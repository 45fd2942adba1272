pub mod BodyFacts
pub mod FieldFacts
