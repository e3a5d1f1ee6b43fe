pub mod Counting
pub mod Figures
pub mod Rows
pub mod Steps
pub mod Widths
