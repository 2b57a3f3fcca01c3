use Rattle.xs_demand.proofs.ReachLemmas.{aliases_apart}
use Rattle.xs_demand.proofs.aliases.no_alias_stands_twice.Goals as goal

pub returns : goal.returns
returns c = aliases_apart
