pub mod Contributions
