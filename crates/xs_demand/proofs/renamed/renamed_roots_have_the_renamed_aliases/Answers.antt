use Rattle.xs_demand.proofs.RenamedAliases.{aliases-renamed}
use Rattle.xs_demand.proofs.renamed.renamed_roots_have_the_renamed_aliases.Goals as goal

pub returns : goal.returns
returns c = aliases-renamed
