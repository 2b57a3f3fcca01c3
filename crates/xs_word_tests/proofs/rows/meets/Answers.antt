use Rattle.xs_word_tests.proofs.HandLemmas.{free_stays}
use Rattle.xs_word_tests.proofs.rows.meets.Goals.{in-Busy, in-Ready, in-Lost}
use Rattle.xs_word_tests.proofs.rows.meets.Goals as goal

pub returns-clause-free : goal.returns-clause-free
returns-clause-free g c = elim c.match-claim.branch [
  | in-Busy w ↦ free_stays _ _ w.in-Busy.ensures.told.0 c.requires.free
  | in-Ready w ↦ free_stays _ _ w.in-Ready.ensures.told.0 c.requires.free
  | in-Lost w ↦ free_stays _ _ w.in-Lost.ensures.told.0 c.requires.free
]
