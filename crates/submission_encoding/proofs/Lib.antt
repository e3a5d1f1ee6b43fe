pub mod Read
pub mod Trailer
pub mod Whole
pub mod Trim
pub mod Copies
pub mod Sizes
pub mod Accepted
mod Examples
