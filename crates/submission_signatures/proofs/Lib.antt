pub mod Quorate
pub mod Facts
pub mod Fifteen
pub mod Said
pub mod Turns
pub mod StampsLeft
