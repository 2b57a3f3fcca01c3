use Rattle.xs_demand.proofs.ShownLemmas.{readers_used}
use Rattle.xs_demand.proofs.shown.readers_are_uses.Goals as goal

pub returns : goal.returns
returns c = readers_used
