mod Bad
pub mod Telling
