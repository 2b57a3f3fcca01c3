pub mod Channels
pub mod Operations
pub mod PixelRows
pub mod Picture
pub mod Points
pub mod Images
