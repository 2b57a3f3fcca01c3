pub mod Row
pub mod Ring
