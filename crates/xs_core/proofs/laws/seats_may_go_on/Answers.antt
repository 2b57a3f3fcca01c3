use Rattle.xs_core.proofs.SeatLemmas.{claimed_after, stays_reading, may_read_still}
use Rattle.xs_core.proofs.laws.seats_may_go_on.Goals as goal

pub returns-clause-claimed : goal.returns-clause-claimed
returns-clause-claimed c = claimed_after

pub returns-clause-reading : goal.returns-clause-reading
returns-clause-reading c = λ told p v w e r. stays_reading told p v e r w

pub returns-clause-reads : goal.returns-clause-reads
returns-clause-reads c = may_read_still
