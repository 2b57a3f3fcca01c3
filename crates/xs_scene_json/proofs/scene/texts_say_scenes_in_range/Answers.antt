use Rattle.xs_scene_json.proofs.Readings.{scene_reads}
use Rattle.xs_scene_json.proofs.scene.texts_say_scenes_in_range.Goals as goal

pub returns : goal.returns
returns c = λ bytes s is. (scene_reads bytes).values s is
