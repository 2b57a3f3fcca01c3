use Rattle.std.proofs.Common.{◌≡◌, ◌++◌, replicate}
use Rattle.xs_check.proofs.numbers.add_level.Given as goal

abbrev pub invariant-loop-added : goal.invariant-loop-added
invariant-loop-added l = l.owners.items ≡ l.initial.owners.items ++ replicate l._added l.level
