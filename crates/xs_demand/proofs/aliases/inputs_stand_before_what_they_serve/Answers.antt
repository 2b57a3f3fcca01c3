use Rattle.xs_demand.proofs.ReachLemmas.{aliases_founded}
use Rattle.xs_demand.proofs.aliases.inputs_stand_before_what_they_serve.Goals as goal

pub returns : goal.returns
returns c = λ tiles roots x input k at among. aliases_founded tiles roots x k at input among
