pub mod Alive
