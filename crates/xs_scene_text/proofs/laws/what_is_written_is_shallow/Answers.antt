use Rattle.xs_scene_text.proofs.Shallow.{scene_shallow}
use Rattle.xs_scene_text.proofs.laws.what_is_written_is_shallow.Goals as goal

pub returns : goal.returns
returns c = record { whole = λ scene. (scene_shallow scene).no_float; within = λ scene. (scene_shallow scene).within }
