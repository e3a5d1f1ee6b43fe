pub mod Parameters
pub mod Listed
pub mod Digits
