-- shared by several files: Counts, Events, Lines, Moves, Stamps, Ways
pub mod Counts
pub mod Endpoint
pub mod Head
pub mod Letter
pub mod Events
pub mod Stamps
pub mod Roster
pub mod Ways
pub mod Lines
pub mod Moves
