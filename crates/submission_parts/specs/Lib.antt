pub mod Reader
pub mod Parts
pub mod Commits
pub mod Shapes
