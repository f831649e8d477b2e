-- shared by several files: Links
pub mod Slots
pub mod Links
