use Rattle.xs_worker.proofs.SectionLemmas.{new_stands, begun_stands}
use Rattle.xs_worker.proofs.laws.new_workers_stand_where_nothing_is_claimed.Goals as goal

pub returns-clause-idle : goal.returns-clause-idle
returns-clause-idle c = new_stands

pub returns-clause-begun : goal.returns-clause-begun
returns-clause-begun c = begun_stands
