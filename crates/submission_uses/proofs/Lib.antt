pub mod Places
pub mod Gathered
pub mod StampUses
