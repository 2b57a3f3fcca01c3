pub mod LookUp
mod Filling
