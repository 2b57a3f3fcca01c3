use Rattle.xs_worker.proofs.SectionLemmas.{alone_finishes, finished_settled}
use Rattle.xs_worker.proofs.laws.workers_that_are_alone_finish.Goals as goal

pub returns-clause-finish : goal.returns-clause-finish
returns-clause-finish c = alone_finishes

pub returns-clause-settled : goal.returns-clause-settled
returns-clause-settled c = finished_settled
