pub mod Paths
pub mod Rings
