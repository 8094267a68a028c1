pub mod Hull
