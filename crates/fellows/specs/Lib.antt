pub mod Fellows
