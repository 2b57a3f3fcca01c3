use Rattle.std.proofs.Common.{◌≡◌, ◌++◌}
use Rattle.xs_worker.specs.Sections.{column}
use Rattle.xs_worker.proofs.roots.push_column.Given as goal

abbrev pub invariant-loop-row : goal.invariant-loop-row
invariant-loop-row l = l.targets.items ≡ l.fn.targets.items ++ column l.fn.p l.fn.tile l.fn.first l.row
