pub mod Texts
pub mod Room
