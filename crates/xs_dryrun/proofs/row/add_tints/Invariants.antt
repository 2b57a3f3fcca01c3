use Rattle.xs_dryrun.proofs.RowTints.{AddsTo}
use Rattle.xs_dryrun.proofs.row.add_tints.Given as goal

abbrev pub invariant-loop-t : goal.invariant-loop-t
invariant-loop-t l = AddsTo l.fn.builder l.entered l.from l.t l.builder
