use Rattle.xs_demand.proofs.LimitLemmas.{found_on_the_way}
use Rattle.xs_demand.proofs.limits.limits_are_found_on_the_way.Goals as goal

pub returns : goal.returns
returns c = found_on_the_way
