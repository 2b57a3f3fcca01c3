pub mod Spots
pub mod Terminals
pub mod Steps
pub mod Readings
pub mod Ways
