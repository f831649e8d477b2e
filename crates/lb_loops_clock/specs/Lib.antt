-- shared by several files: Acts, Lines, World
pub mod Acts
pub mod Lines
pub mod News
pub mod Turn
pub mod World
