pub mod Sets
pub mod Levels
pub mod Numbered
pub mod SpotStays
pub mod Noted
pub mod Offsets
pub mod Shows
