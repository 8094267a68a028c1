pub mod Vector
pub mod Held
pub mod Finite
