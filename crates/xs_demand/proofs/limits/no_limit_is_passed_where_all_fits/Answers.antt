use Rattle.xs_demand.proofs.FitLemmas.{all_fits, none_where_all_fits}
use Rattle.xs_demand.proofs.limits.no_limit_is_passed_where_all_fits.Goals as goal

pub returns : goal.returns
returns c = λ tiles roots some. (all_fits tiles roots some, none_where_all_fits tiles roots)
