pub mod Lists
pub mod Order
pub mod Gather
pub mod Scatter
pub mod Steps
pub mod Call
