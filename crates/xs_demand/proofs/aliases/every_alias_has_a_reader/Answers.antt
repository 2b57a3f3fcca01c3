use Rattle.xs_demand.proofs.ReachLemmas.{aliases_read}
use Rattle.xs_demand.proofs.aliases.every_alias_has_a_reader.Goals as goal

pub returns : goal.returns
returns c = aliases_read
