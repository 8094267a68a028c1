pub mod Links
pub mod Grouped
