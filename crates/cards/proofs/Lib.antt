pub mod Lengths
pub mod Outcomes
pub mod Back
pub mod Places
