pub mod Welding
