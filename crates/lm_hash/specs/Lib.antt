pub mod Identifier
pub mod Tagged
