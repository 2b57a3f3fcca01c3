use Rattle.xs_plan.proofs.HeldLemmas.{held-while_needed}
use Rattle.xs_plan.proofs.laws.drawings_are_held_while_they_are_needed.Goals as goal

pub returns : goal.returns
returns c = held-while_needed
