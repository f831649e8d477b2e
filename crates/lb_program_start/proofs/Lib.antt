mod Asked
mod Unwritten
