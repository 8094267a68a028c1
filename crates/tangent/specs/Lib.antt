pub mod Space
pub mod Slot
pub mod Held
pub mod Finite
