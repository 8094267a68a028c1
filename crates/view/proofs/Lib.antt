pub mod Lists
pub mod Frame
pub mod Stores
pub mod Rows
pub mod Weld
pub mod Records
pub mod Groups
pub mod Answer
