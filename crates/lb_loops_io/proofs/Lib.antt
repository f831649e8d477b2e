pub mod Rosters
pub mod Sends
