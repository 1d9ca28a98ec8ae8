pub mod Filled
pub mod Fresh
