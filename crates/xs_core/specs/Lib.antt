pub mod Counts
pub mod States
pub mod Events
pub mod Kept
pub mod Runs
pub mod Views
pub mod Calls
