pub mod Chunks
pub mod Links
