use Rattle.xs_bench.specs.Cells.{Copied}
use Rattle.xs_bench.proofs.copying.copy_rows.Given as goal

abbrev pub invariant-loop-row : goal.invariant-loop-row
invariant-loop-row l = Copied l.from l.from_w l.to_w l.across l.up l.row l.initial.to l.to
