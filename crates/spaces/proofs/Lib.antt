pub mod Kept
pub mod Sums
pub mod Shown
pub mod Ranged
