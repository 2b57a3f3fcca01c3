pub mod Codes
pub mod Raw
pub mod Pixels
pub mod Frame
pub mod Held
pub mod Level
