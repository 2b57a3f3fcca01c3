use Rattle.std.proofs.Common.{◌-◌}
use Rattle.xs_blur.specs.Totals.{AreMeans, AreSums}
use Rattle.xs_blur.proofs.line.put_line.Given as goal

abbrev pub invariant-loop-x : goal.invariant-loop-x
invariant-loop-x l = record {
  sums : AreSums l.columns l.x (l.side - 1) l.sums;
  means : AreMeans l.columns l.side l.line l.x;
}
