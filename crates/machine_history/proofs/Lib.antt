pub mod Calls
pub mod Fates
pub mod One
pub mod Examples
