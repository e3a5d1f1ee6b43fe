pub mod Report
pub mod Claims
pub mod Figures
pub mod Places
