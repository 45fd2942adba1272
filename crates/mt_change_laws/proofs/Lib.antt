pub mod RecordParts
pub mod RecordChanges
pub mod FileChanges
