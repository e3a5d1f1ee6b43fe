pub mod Distinct
mod Counting
mod Examples
