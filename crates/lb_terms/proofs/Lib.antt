pub mod Sets
pub mod Indexed
pub mod Counts
pub mod Selectors
pub mod Crosses
