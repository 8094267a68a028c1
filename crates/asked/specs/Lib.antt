pub mod Lowest
pub mod Links
pub mod Groups
pub mod Objections
pub mod Meaning
