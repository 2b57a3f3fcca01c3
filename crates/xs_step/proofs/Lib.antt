pub mod Readings
pub mod Ways
pub mod Columns
pub mod SameSpots
