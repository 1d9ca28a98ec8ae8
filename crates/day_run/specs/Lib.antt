pub mod Days
pub mod Views
pub mod Calls
