use Rattle.xs_check.proofs.Existing.{root-below}
use Rattle.xs_check.proofs.laws.drawings_of_rows_are_there.Goals as goal

pub returns : goal.returns
returns c = root-below
