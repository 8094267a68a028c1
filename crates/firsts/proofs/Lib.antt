pub mod Ordering
pub mod Heading
