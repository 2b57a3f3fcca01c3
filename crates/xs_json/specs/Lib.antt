pub mod Parsing
pub mod Objects
