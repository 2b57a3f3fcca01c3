use Rattle.xs_dryrun.specs.Adding.{AddsRows}
use Rattle.xs_dryrun.proofs.next.add_rows.Given as goal

abbrev pub invariant-loop-i : goal.invariant-loop-i
invariant-loop-i l = AddsRows l.s l.names l.from l.place l.count l.i l.fn.way l.way
