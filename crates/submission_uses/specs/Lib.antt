pub mod Signed
pub mod StampUses
