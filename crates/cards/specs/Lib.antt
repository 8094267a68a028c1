pub mod Writer
pub mod Reader
pub mod Contract
