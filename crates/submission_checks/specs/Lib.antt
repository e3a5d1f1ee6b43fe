pub mod Checks
pub mod Pointers
