pub mod Format
pub mod Formed
pub mod Leaf
pub mod Uses
pub mod Bounds
