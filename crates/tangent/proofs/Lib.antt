pub mod Held
pub mod Slots
pub mod Finite
