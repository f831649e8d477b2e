mod Freshening
mod Probing
