pub mod Trial
pub mod Reasons
pub mod Contract
