pub mod Holds
pub mod Parts
