pub mod Fronts
pub mod Deciding
pub mod Columns
pub mod Results
pub mod Accepted
