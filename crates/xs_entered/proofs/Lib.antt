pub mod ShownPlaces
pub mod OnePlace
pub mod Putting
pub mod Entering
pub mod SamePlace
pub mod Reading
pub mod Keeping
pub mod Adding
