pub mod Wanted
pub mod Added
