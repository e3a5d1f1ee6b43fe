pub mod BigEndian
pub mod Over
pub mod Widths
