mod Tables
mod Added
pub mod Wanted
