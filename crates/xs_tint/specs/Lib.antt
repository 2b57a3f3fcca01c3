pub mod Filters
pub mod KeysTaken
pub mod Tints
