pub mod Charges
pub mod Rules
