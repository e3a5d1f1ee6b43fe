pub mod Bytes
pub mod Laws
pub mod Members
pub mod FlatMap
pub mod Same
pub mod Over
