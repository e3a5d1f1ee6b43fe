mod Examples
pub mod Readings
pub mod Inside
pub mod Shapes
pub mod Standing
pub mod Commits
mod CommitExamples
