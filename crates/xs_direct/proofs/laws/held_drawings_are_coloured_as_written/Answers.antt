use Rattle.xs_direct.proofs.ColouredLemmas.{held-as_written}
use Rattle.xs_direct.proofs.laws.held_drawings_are_coloured_as_written.Goals as goal

pub returns : goal.returns
returns c = held-as_written
