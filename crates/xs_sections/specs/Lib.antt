pub mod Orders
pub mod Drawn
