pub mod Order
pub mod Apart
pub mod ApartTold
pub mod Index
