pub mod Records
pub mod Names
pub mod Ranges
pub mod InRange
pub mod Inputs
