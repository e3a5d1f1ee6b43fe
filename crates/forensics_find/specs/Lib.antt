pub mod Read
pub mod Tenures
pub mod Leaves
pub mod Lowest
