mod CommitIndex
pub mod Pointers
pub mod Facts
