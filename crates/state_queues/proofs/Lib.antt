pub mod HeadLaws
pub mod LowLaws
pub mod TakeLaws
