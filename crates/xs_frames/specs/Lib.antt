pub mod Names
pub mod Canvases
pub mod Rows
pub mod Frames
