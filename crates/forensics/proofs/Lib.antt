mod Examples
pub mod Agree
pub mod Members
pub mod Order
pub mod Blame
pub mod Rows
pub mod Fair
pub mod Naming
