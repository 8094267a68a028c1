pub mod Links
pub mod Cursors
pub mod Sides
