use Rattle.std.proofs.Common.{arith}
use Rattle.xs_dryrun.proofs.RowLimits.{some_on}
use Rattle.xs_dryrun.proofs.limits.first_passed.Goals as goal

pub returns-then-is_some-clause-some : goal.returns-then-is_some-clause-some
returns-then-is_some-clause-some c =
    some_on c.passed_on-found.result c.args.tiles c.args.row c.args.was c.args.now c.loop-tile.tile (omega arith)
    c.passed_on-found.ensures c.loop-tile.invariant
