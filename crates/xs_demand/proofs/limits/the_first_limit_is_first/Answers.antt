use Rattle.xs_demand.proofs.LimitLemmas.{none_passed, none_is_first, some_passed, passed_is_first}
use Rattle.xs_demand.proofs.limits.the_first_limit_is_first.Goals as goal

pub returns : goal.returns
returns c = record {
  none = λ tiles roots. (none_passed tiles roots, none_is_first tiles roots);
  some = λ tiles roots what. (some_passed tiles roots what, passed_is_first tiles roots what);
}
