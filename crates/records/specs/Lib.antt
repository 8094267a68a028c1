pub mod Stored
pub mod Fields
