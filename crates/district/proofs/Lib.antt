pub mod Judged
pub mod Pairs
pub mod Union
pub mod Demand3
mod Examples
mod Strength
mod Premises
