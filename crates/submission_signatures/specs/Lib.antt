pub mod Checked
pub mod Votes
pub mod Genuine
