pub mod Beside
pub mod Stages
