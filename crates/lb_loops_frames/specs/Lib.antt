-- shared by several files: Frames
pub mod Frames
