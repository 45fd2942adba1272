pub mod ReadBack
pub mod TwoFiles
pub mod Laws
pub mod FileLaws
pub mod Examples
