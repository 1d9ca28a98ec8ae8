pub mod Sets
pub mod Views
