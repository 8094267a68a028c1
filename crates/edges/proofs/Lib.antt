pub mod Runs
pub mod Like
pub mod ByEnds
pub mod Sorting
pub mod Whole
pub mod Same
pub mod Links
