pub mod Coloured
pub mod Pictures
pub mod Frames
pub mod Filters
pub mod Room
pub mod Sums
pub mod Values
pub mod Steps
