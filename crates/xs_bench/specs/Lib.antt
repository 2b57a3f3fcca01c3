pub mod Shows
pub mod Inputs
pub mod Cells
