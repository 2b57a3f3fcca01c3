pub mod Remembered
pub mod Showings
pub mod GatherLemmas
