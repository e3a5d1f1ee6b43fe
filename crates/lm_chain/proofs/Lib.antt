pub mod Chains
mod Stepped
