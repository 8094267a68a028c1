pub mod Words
pub mod Scanning
pub mod Ranks
pub mod InOrder
pub mod Turning
pub mod Finding
pub mod Stages
