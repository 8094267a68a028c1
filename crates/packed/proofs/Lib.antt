pub mod Rounding
pub mod Range
pub mod Copies
pub mod Runs
pub mod Outcomes
pub mod Signs
pub mod Places
