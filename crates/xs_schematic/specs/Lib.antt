pub mod Visits
pub mod Order
