use Rattle.xs_check.specs.Readers.{IsNumbering}
use Rattle.xs_check.proofs.numbers.numbers_of.Given as goal

abbrev pub invariant-loop-level : goal.invariant-loop-level
invariant-loop-level l = IsNumbering l.levels l.level-index l.firsts.items l.owners.items
