pub mod Least
pub mod Filed
pub mod Chunk
pub mod Block
pub mod Cursor
pub mod Front
