use Rattle.xs_scene_json.proofs.Readings.{scene_reads}
use Rattle.xs_scene_json.proofs.scene.text_faults.Goals as goal

pub returns : goal.returns
returns c = λ bytes fault is. (scene_reads bytes).faults fault is
