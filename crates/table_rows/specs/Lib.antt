pub mod Bytes
pub mod Kinds
pub mod Limits
pub mod Rows
pub mod Fields
pub mod Lineage
pub mod Examples
