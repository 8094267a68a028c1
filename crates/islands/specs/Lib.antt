pub mod Islands
pub mod Together
pub mod Rows
pub mod Nine
