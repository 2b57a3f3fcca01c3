pub mod Told
pub mod Answers
pub mod Counts
pub mod Calls
pub mod Files
pub mod Quiet
