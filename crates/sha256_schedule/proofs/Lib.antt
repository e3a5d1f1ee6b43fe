pub mod Bitwise
pub mod Extend
