pub mod Trailer
pub mod View
pub mod Reading
pub mod Validate
pub mod Sizes
