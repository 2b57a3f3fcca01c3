pub mod Stored
pub mod Lists
pub mod ChiefLaw
