-- shared by several files: Reading
pub mod Name
pub mod Fault
pub mod Reading
pub mod Text
pub mod Laws
