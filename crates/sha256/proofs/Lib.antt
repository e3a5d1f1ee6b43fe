pub mod Blocks
pub mod Examples
mod Output
mod Padding
pub mod Rounds
