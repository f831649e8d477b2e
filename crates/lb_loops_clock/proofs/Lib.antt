mod Acting
mod Counting
mod Going
mod Letters
mod Places
mod Probing
