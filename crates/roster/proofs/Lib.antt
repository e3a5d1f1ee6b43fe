pub mod Quorums
pub mod Accepted
mod Examples
pub mod Masks
pub mod EveryReplica
