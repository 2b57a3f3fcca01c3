use Rattle.xs_worker.proofs.HeldLemmas.{fresh_begun}
use Rattle.xs_worker.proofs.laws.the_first_section_is_begun_at_a_fresh_seat.Goals as goal

pub returns : goal.returns
returns c = fresh_begun
