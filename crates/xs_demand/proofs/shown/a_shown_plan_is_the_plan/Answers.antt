use Rattle.xs_demand.proofs.ShownLemmas.{shown_is_the_plan}
use Rattle.xs_demand.proofs.shown.a_shown_plan_is_the_plan.Goals as goal

pub returns : goal.returns
returns c = shown_is_the_plan
