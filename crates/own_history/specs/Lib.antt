pub mod Own
pub mod Days
