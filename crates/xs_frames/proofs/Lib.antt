pub mod Bytes
pub mod Serving
pub mod Painting
