use Rattle.xs_demand.proofs.FirstRows.{first_is_right}
use Rattle.xs_demand.proofs.aliases.first_rows_are_right.Goals as goal

pub returns : goal.returns
returns c = record {
  reached = λ tiles roots p shows x k at. (first_is_right tiles roots p shows x k at).0;
  first = λ tiles roots p shows x k at. (first_is_right tiles roots p shows x k at).1;
}
