pub mod Datagrams
pub mod Sources
pub mod Told
