pub mod Walks
pub mod Views
pub mod Whole
