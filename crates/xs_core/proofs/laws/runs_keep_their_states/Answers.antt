use Rattle.xs_core.proofs.RunLemmas.{kept_after}
use Rattle.xs_core.proofs.laws.runs_keep_their_states.Goals as goal

pub returns : goal.returns
returns c = λ p plan events ran. kept_after p events plan (c.reads_have_their_sources.ensures.exist p plan) ran
