use Rattle.xs_scene_text.proofs.Nodes.{scene_again}
use Rattle.xs_scene_text.proofs.laws.what_is_written_is_read_again.Goals as goal

pub returns : goal.returns
returns c = scene_again
