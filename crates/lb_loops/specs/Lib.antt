pub mod Caller
pub mod Fault
pub mod LastSent
pub mod Running
