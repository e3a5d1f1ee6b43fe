pub mod Rows
pub mod Tested
pub mod Leads
pub mod Tried
pub mod Settling
pub mod Found
pub mod Chosen
