pub mod Blank
pub mod Fuel
pub mod Crossing
pub mod Walks
pub mod Turns
pub mod Same
