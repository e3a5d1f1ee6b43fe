pub mod Lowest
pub mod Rows
mod Broken
pub mod LeafRows
