pub mod Faces
pub mod Places
pub mod Firsts
pub mod Words
pub mod Turns
