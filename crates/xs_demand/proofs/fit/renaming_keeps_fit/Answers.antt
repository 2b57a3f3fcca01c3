use Rattle.xs_demand.proofs.RenamedFit.{fit-renamed}
use Rattle.xs_demand.proofs.fit.renaming_keeps_fit.Goals as goal

pub returns : goal.returns
returns c = fit-renamed
