pub mod Table
pub mod Taking
pub mod Writing
