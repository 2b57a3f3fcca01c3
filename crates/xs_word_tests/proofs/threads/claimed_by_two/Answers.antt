use Rattle.xs_word_tests.proofs.HandLemmas.{has_nothing}
use Rattle.xs_word_tests.proofs.threads.claimed_by_two.Goals as goal

pub join-requires-clause-settled : goal.join-requires-clause-settled
join-requires-clause-settled g c = has_nothing _ c.both_claim-first.ensures.a_free

pub join-requires-2-clause-settled : goal.join-requires-2-clause-settled
join-requires-2-clause-settled g c = has_nothing _ c.both_claim-first.ensures.b_free
