pub mod Lists
pub mod Rings
pub mod Held
pub mod Changed
pub mod Kept
