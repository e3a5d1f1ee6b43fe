pub mod Replica
pub mod Charges
