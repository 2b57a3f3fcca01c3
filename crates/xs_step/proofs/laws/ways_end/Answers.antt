use Rattle.xs_step.proofs.Ways.{row-ends}
use Rattle.xs_step.proofs.laws.ways_end.Goals as goal

pub returns : goal.returns
returns c = row-ends
