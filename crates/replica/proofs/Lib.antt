mod Examples
pub mod Allowed
pub mod Leaves
pub mod Honest
pub mod Request
pub mod Signed
mod Case
mod ReplicaActs
mod Outcomes
mod Strength
