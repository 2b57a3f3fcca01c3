pub mod Word
pub mod WordRows
