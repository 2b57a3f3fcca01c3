use Rattle.xs_dryrun.specs.Row.{FillsRowTo}
use Rattle.xs_dryrun.proofs.row.fill_row.Given as goal

abbrev pub invariant-loop-t : goal.invariant-loop-t
invariant-loop-t l = FillsRowTo l.fn.builder l.entered l.rows l.before l.root l.t l.builder
