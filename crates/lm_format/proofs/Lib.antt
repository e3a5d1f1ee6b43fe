pub mod Forms
pub mod Leaf
pub mod Uses
