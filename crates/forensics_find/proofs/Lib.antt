mod Reached
mod Forks
pub mod Views
pub mod Says
pub mod Pairs
pub mod Rules
pub mod Ended
pub mod Left
pub mod Replicas
pub mod Shown
mod Committed
mod Numbers
pub mod Gathered
