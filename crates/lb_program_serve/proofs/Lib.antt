mod Crosses
mod Outputs
mod Rosters
mod Heard
