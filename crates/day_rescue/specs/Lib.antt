pub mod Rescue
pub mod Places
pub mod Parts
pub mod Examples
