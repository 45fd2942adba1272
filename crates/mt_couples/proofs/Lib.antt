pub mod OneFacts
pub mod StageFacts
