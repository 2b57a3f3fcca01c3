use Rattle.xs_demand.proofs.OwnNames.{renamed-own}
use Rattle.xs_demand.proofs.renamed.own_names_change_no_expression.Goals as goal

pub returns : goal.returns
returns c = renamed-own
