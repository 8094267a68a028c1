pub mod Abs
pub mod Held
pub mod Equal
pub mod Rounds
pub mod Finite
pub mod Counting
