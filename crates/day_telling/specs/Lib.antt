pub mod Facts
pub mod Times
