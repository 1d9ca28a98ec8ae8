pub mod Transiting
pub mod Saving
