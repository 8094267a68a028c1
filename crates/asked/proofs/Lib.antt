pub mod Rows
pub mod Ways
pub mod Stages
pub mod Fits
pub mod Likes
pub mod Bridge
