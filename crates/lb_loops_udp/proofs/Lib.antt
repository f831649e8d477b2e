pub mod Handling
pub mod Reaches
pub mod Rounds
pub mod Sends
