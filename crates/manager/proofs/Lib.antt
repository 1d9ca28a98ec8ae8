pub mod Front
pub mod Packs
pub mod Calls
pub mod Runs
