pub mod Parts
pub mod Ranges
pub mod Rules
