pub mod Counts
pub mod Stored
pub mod Judged
pub mod Written
pub mod Changed
pub mod Same
pub mod Other
