use Rattle.xs_demand.proofs.ShownLemmas.{plan_shows_roots}
use Rattle.xs_demand.proofs.shown.the_plan_shows_its_roots.Goals as goal

pub returns : goal.returns
returns c = plan_shows_roots
