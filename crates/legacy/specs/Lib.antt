pub mod Merged
pub mod Four
pub mod Links
pub mod Grouped
