pub mod Chosen
pub mod Settled
