mod Crosses
mod Stages
