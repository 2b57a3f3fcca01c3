pub mod Bitmap
pub mod Changes
