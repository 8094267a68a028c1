pub mod Deciding
pub mod Contract
