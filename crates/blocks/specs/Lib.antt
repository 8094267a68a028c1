pub mod Format
pub mod Judged
