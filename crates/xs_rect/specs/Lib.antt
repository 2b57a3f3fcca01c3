pub mod Area
pub mod Tiles
