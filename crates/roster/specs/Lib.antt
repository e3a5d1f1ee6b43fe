pub mod Roster
pub mod Masks
pub mod Sizes
