-- shared by several files: Words, Pieces, Typed
pub mod Words
pub mod Addrs
pub mod Pieces
pub mod Typed
pub mod Options
