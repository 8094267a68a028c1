pub mod Counting
pub mod Verdicts
