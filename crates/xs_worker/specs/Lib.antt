pub mod Piles
pub mod Reading
pub mod Claims
pub mod Steps
pub mod Advances
pub mod Sections
