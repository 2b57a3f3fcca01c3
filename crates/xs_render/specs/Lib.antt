pub mod Progress
pub mod Computed
pub mod Making
pub mod Scenes
