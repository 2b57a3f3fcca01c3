use Rattle.xs_worker.proofs.SectionLemmas.{grew_gained, grew_record, gained_then}
use Rattle.xs_worker.proofs.laws.workers_gain_for_their_targets.Goals as goal

pub returns-clause-gained : goal.returns-clause-gained
returns-clause-gained c = grew_gained

pub returns-clause-computed : goal.returns-clause-computed
returns-clause-computed c = grew_record

pub returns-clause-together : goal.returns-clause-together
returns-clause-together c = gained_then
