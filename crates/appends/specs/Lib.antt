pub mod Next
pub mod Append
pub mod Contract
pub mod File
