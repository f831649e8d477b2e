pub mod Labels
pub mod Keys
pub mod Overs
pub mod Pairs
pub mod Lowers
pub mod Below
pub mod Shown
