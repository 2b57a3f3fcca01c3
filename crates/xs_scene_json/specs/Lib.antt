pub use Rattle.xs_scene_text.specs.Fields
pub use Rattle.xs_scene_text.specs.SceneText
pub use Rattle.xs_scene_text.specs.SceneData
pub mod Faults
