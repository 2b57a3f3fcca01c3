use Rattle.std.specs.List.{AllAdjacentBelow}
use Rattle.xs_check.specs.Shared.{EndsBefore}
use Rattle.xs_check.proofs.shared.each_ends_before.Given as goal

abbrev pub invariant-loop-i : goal.invariant-loop-i
invariant-loop-i g l = AllAdjacentBelow (EndsBefore g.T.HasRow.group_of g.T.HasRow.row_of g.T.HasRow.last_of) l.items l.i
