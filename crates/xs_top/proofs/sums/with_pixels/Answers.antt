use Rattle.std.proofs.Common.{◌∙◌, ◌^◌, ◌-◌, min, ap, ◌+◌}
use Rattle.xs_top.proofs.FrameSums.{more_pixels}
use Rattle.xs_top.proofs.sums.with_pixels.Goals as goal

pub loop-i-preserved : goal.loop-i-preserved
loop-i-preserved c =
    c.saturating_add-sum.ensures
    ∙ (ap (λ byte. min (c.loop-i.sum + byte) (2 ^ 64 - 1)) c.from.ensures
    ∙ more_pixels c.args.total c.loop-i.sum c.loop-i.i c.args.frame.now c.loop-i.auto.i c.loop-i-test.true c.loop-i.invariant)
