pub mod Contract
pub mod Alone
