mod Bytes
mod Examples
pub mod Fairness
pub mod Fits
pub mod Figures
pub mod Demand3
pub mod Premises
mod Strength
