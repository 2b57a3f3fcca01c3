pub mod WordColours
pub mod Done
