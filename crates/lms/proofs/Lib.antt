mod Answers
mod Examples
pub mod Figures
pub mod Leaves
pub mod Steps
mod Strength
