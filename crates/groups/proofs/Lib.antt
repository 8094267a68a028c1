pub mod Laws
pub mod Steps
pub mod Facing
pub mod Marking
pub mod Entering
pub mod Walking
pub mod Turning
pub mod Finished
