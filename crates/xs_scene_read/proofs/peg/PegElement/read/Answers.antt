use Rattle.xs_scene.specs.Ranges.{HasNoLine}
use Rattle.xs_scene_read.proofs.peg.PegElement.read.Goals as goal

pub returns-clause-known : goal.returns-clause-known
unfolding HasNoLine
returns-clause-known c = c.in_ok-list_or_empty.ensures.known
