pub mod Worth
pub mod Contract
pub mod Meaning
