pub mod Blocking
pub mod Held
pub mod Judged
pub mod Listed
pub mod Moved
pub mod Prospects
pub mod Verdicts
pub mod View
