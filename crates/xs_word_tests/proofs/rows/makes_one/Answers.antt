use Rattle.xs_word_tests.proofs.HandLemmas.{has_nothing, free_split}
use Rattle.xs_word_tests.proofs.rows.makes_one.Goals as goal

pub join-requires-clause-settled : goal.join-requires-clause-settled
join-requires-clause-settled g c = has_nothing _ c.in_ok-finish.ensures.free

pub join-requires-2-clause-settled : goal.join-requires-2-clause-settled
join-requires-2-clause-settled g c = has_nothing _ (free_split _ _ _ c.split-b.ensures.told)
