pub mod Cycles
pub mod Paths
pub mod Search
pub mod Labels
