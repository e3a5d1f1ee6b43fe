pub mod Rows
pub mod Sought
pub mod Offers
