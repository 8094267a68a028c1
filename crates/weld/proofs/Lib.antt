pub mod Buckets
mod Chains
mod Turns
mod Stores
pub mod Whole
