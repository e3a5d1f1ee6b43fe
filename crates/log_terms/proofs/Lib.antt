pub mod Records
pub mod Rising
pub mod Walks
pub mod Next
pub mod Pointed
