use Rattle.xs_blur.specs.Totals.{AreSums}
use Rattle.xs_blur.proofs.line.first_sums.Given as goal

abbrev pub invariant-loop-at : goal.invariant-loop-at
invariant-loop-at l = AreSums l.columns 0 l.at l.sums
