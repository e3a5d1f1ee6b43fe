mod Examples
pub mod Parts
mod Sums
