pub mod Word
pub mod Heard
