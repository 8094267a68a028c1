pub mod Scan
pub mod OnLinks
pub mod Said
