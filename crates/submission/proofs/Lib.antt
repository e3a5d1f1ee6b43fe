pub mod Accepted
mod Examples
pub mod Certificates
pub mod Slots
pub mod Fits
pub mod Linked
pub mod Places
