pub mod Crosses
pub mod Numbers
pub mod ReceiptsOf
pub mod Runs
pub mod Whole
