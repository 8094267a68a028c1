pub mod Edges
pub mod Tags
