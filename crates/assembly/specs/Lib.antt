pub mod Items
pub mod Choice
pub mod Assembly
pub mod Claims
