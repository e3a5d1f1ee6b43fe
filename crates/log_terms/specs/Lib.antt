pub mod Later
pub mod Pointed
