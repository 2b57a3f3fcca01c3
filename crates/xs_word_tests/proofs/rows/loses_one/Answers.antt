use Rattle.xs_word_tests.proofs.HandLemmas.{has_nothing}
use Rattle.xs_word_tests.proofs.rows.loses_one.Goals as goal

pub join-requires-clause-settled : goal.join-requires-clause-settled
join-requires-clause-settled g c = has_nothing _ c.gives_up.ensures.free.1

pub join-requires-2-clause-settled : goal.join-requires-2-clause-settled
join-requires-2-clause-settled g c = has_nothing _ c.gives_up.ensures.free.0
