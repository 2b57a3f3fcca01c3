mod Boxes
pub mod Products
pub mod StaysPixel
pub mod PixelRowLemmas
