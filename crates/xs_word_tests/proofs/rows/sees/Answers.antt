use Rattle.xs_word_tests.proofs.HandLemmas.{free_stays}
use Rattle.xs_word_tests.proofs.rows.sees.Goals as goal

pub returns-clause-free : goal.returns-clause-free
returns-clause-free g c = free_stays _ _ c.looks-found.ensures.stays c.requires.free
