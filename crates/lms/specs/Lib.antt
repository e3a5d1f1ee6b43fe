pub mod Check
pub mod Figures
pub mod Steps
