pub mod Datagrams
pub mod Streams
