pub mod Each
pub mod Places
mod Rotations
