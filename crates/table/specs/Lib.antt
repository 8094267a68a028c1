pub mod Table
pub mod Columns
