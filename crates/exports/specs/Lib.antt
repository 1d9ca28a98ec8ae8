pub mod Told
pub mod State
pub mod Answers
