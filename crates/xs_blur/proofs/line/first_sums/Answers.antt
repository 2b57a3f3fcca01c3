use Rattle.xs_blur.proofs.Lines.{sums_none, sums_with, sums_small}
use Rattle.std.proofs.Common.{arith}
use Rattle.xs_blur.proofs.line.first_sums.Goals as goal

pub loop-at-init : goal.loop-at-init
loop-at-init c = sums_none c.args.columns.now 0

pub with-sums-requires-clause-room : goal.with-sums-requires-clause-room
with-sums-requires-clause-room c =
    sums_small c.args.columns.now 0 c.loop-at.at 8415 1000000 c.loop-at.sums c.loop-at.invariant c.requires.sums (omega arith)

pub loop-at-preserved : goal.loop-at-preserved
loop-at-preserved c =
    sums_with c.args.columns.now 0 c.loop-at.at c.loop-at.at c.loop-at.sums c.with-sums.result c.loop-at.invariant (omega arith) c.with-sums.ensures
