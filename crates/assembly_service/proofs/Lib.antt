pub mod Counted
pub mod Rows
pub mod Views
pub mod Answers
pub mod Plans
pub mod Taken
pub mod Outputs
