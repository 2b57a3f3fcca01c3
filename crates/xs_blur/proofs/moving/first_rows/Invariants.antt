use Rattle.std.proofs.Common.{length}
use Rattle.xs_blur.specs.Totals.{AreColumns}
use Rattle.xs_blur.proofs.moving.first_rows.Given as goal

abbrev pub invariant-loop-row : goal.invariant-loop-row
invariant-loop-row l = AreColumns l.columns l.bytes (length l.columns) 0 l.row
