use Rattle.xs_build.proofs.StackLemmas.{enter-stacked}
use Rattle.xs_build.proofs.laws.stacks_are_entered_down_and_put_up.Goals as goal

pub returns : goal.returns
returns c = enter-stacked
