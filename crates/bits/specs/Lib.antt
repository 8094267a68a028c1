pub mod Word
pub mod Single
