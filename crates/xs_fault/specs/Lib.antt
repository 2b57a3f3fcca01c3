pub mod Codes
pub mod Fields
pub mod Paths
pub mod Faults
