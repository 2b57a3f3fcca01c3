use Rattle.xs_demand.proofs.TintsInBlocks.{tints_of-entered}
use Rattle.xs_demand.proofs.blocks.tints_come_by_first_visit.Goals as goal

pub returns : goal.returns
returns c = tints_of-entered
