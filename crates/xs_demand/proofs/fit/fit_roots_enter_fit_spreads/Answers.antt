use Rattle.xs_demand.proofs.PassedOn.{fit_added, fit_rows}
use Rattle.xs_demand.proofs.fit.fit_roots_enter_fit_spreads.Goals as goal

pub returns : goal.returns
returns c = record { added = fit_added; rows = fit_rows }
