pub mod Trial
pub mod Bytes
pub mod Whole
pub mod Verdicts
