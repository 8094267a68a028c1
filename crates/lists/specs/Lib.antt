pub mod Lists
pub mod Loops
pub mod Parts
pub mod Every
pub mod Zeros
