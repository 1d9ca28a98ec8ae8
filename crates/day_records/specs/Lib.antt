pub mod Records
pub mod Views
pub mod Examples
