pub mod Styles
pub mod Table
