mod Heads
pub mod Values
