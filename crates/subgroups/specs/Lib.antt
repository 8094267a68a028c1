pub mod Subgroups
pub mod Spans
