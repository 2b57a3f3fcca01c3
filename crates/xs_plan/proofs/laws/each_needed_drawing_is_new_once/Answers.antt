use Rattle.xs_plan.proofs.HeldLemmas.{new_drawings-together, new_drawings-once}
use Rattle.xs_plan.proofs.laws.each_needed_drawing_is_new_once.Goals as goal

pub returns-clause-together : goal.returns-clause-together
returns-clause-together c = new_drawings-together

pub returns-clause-once : goal.returns-clause-once
returns-clause-once c = new_drawings-once
