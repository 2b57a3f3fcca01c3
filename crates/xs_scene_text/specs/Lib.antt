pub mod Fields
pub mod SceneText
pub mod SceneData
