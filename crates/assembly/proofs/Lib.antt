pub mod Whole
pub mod Chosen
pub mod Assembled
pub mod Fits
pub mod Counted
pub mod Answers
pub mod Claim
mod Examples
mod Missing
mod Strength
