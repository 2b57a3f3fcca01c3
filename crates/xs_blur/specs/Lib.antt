pub mod Blurs
pub mod Totals
