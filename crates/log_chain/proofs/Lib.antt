pub mod Fits
pub mod Injective
pub mod Pointers
pub mod Prefix
pub mod Said
pub mod Statements
pub mod Order
pub mod Runs
pub mod Linked
pub mod Records
mod Examples
