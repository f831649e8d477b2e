-- shared by several files: Grammar, Line, Reading
pub mod Fault
pub mod Line
pub mod Reading
pub mod Values
pub mod Terms
pub mod Actions
pub mod Skips
pub mod Commands
pub mod Events
pub mod Setup
pub mod Answers
pub mod Grammar
pub mod Laws
