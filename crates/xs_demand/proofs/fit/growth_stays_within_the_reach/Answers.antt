use Rattle.xs_demand.proofs.PassedOn.{within_added, within_rows}
use Rattle.xs_demand.proofs.fit.growth_stays_within_the_reach.Goals as goal

pub returns : goal.returns
returns c = record { added = within_added; rows = within_rows }
