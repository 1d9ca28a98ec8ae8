pub mod Padded
pub mod PartRows
pub mod Holds
pub mod Walks
pub mod Parts
