-- shared by several files: Lines
pub mod Lines
pub mod Turn
