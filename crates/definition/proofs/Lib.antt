pub mod Samples
pub mod Lengths
pub mod Order
