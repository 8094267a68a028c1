pub mod Linked
pub mod Grouped
