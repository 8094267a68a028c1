pub mod Rounding
pub mod Component
pub mod Packer
pub mod Reader
pub mod Contract
