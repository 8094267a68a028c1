pub mod Signed
pub mod Rounding
pub mod Sums
pub mod Products
pub mod Covers
