-- shared by several files: Text
pub mod Bits
pub mod Mask
pub mod Fault
pub mod Number
pub mod Form
pub mod Text
pub mod Key
pub mod Index
pub mod Marks
pub mod Kinds
pub mod Group
