pub mod SpotExtents
pub mod Remembered
