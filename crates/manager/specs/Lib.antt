pub mod Arrays
pub mod Views
