pub mod Bools
pub mod Nan
pub mod Zeros
pub mod Back
pub mod Negated
