mod Copies
mod Fitting
pub mod Signers
pub mod Taken
mod Turns
mod Walks
