use Rattle.std.proofs.Common.{arith}
use Rattle.xs_stays.proofs.Sets.{shown-set, shown-unset}
use Rattle.xs_stays.proofs.set.shown_len.Goals as goal

pub returns-then-flags-len-clause-shown : goal.returns-then-flags-len-clause-shown
returns-then-flags-len-clause-shown c =
    shown-set c.args.flags.now c.loop-len.len _ (omega arith) c.loop-len.invariant.0 c.if-flags-len.true c.loop-len.invariant.1

pub loop-len-preserved : goal.loop-len-preserved
loop-len-preserved c = (
  omega (arith, c.loop-len.invariant.0),
  shown-unset c.args.flags.now c.loop-len.len _ (omega arith) c.loop-len.invariant.0 c.if-flags-len.false c.loop-len.invariant.1,
)
