pub mod Mixes
pub mod WordRows
