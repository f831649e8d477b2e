pub mod Key
pub mod Index
pub mod Over
pub mod Under
