pub mod Text
pub mod Digits
pub mod Listed
pub mod Lines
pub mod Codes
pub mod Examples
