pub mod Sets
pub mod Stays
pub mod Found
