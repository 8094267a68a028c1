pub mod Laws
pub mod Stretches
pub mod Ordering
pub mod Whole
pub mod Triangles
pub mod Begins
