use Rattle.xs_plan.proofs.DraftLemmas.{Reaches-itself, Reaches-input, Reaches-more}
use Rattle.xs_plan.proofs.laws.aliases_reach_what_their_inputs_reach.Goals as goal

pub returns-clause-itself : goal.returns-clause-itself
returns-clause-itself c = Reaches-itself

pub returns-clause-input : goal.returns-clause-input
returns-clause-input c = Reaches-input

pub returns-clause-more : goal.returns-clause-more
returns-clause-more c = Reaches-more
