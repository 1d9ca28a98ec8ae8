pub mod Writer
pub mod Numbers
pub mod Examples
