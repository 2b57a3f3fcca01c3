use Rattle.xs_demand.proofs.ReachLemmas.{few_aliases, few_inputs}
use Rattle.xs_demand.proofs.aliases.rows_add_few.Goals as goal

pub returns : goal.returns
returns c = record { aliases = few_aliases; inputs = few_inputs }
