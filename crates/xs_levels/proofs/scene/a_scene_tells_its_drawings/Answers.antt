use Rattle.xs_levels.proofs.SceneKinds as kinds
use Rattle.xs_levels.proofs.scene.a_scene_tells_its_drawings.Goals as goal

pub returns-clause-files : goal.returns-clause-files
returns-clause-files c = kinds.table_files

pub returns-clause-kinds : goal.returns-clause-kinds
returns-clause-kinds c = kinds.table_kinds

pub returns-clause-palettes : goal.returns-clause-palettes
returns-clause-palettes c = kinds.table_palettes

pub returns-clause-sound : goal.returns-clause-sound
returns-clause-sound c = kinds.table_sound
