pub mod Listed
pub mod Once
pub mod First
pub mod Sections
