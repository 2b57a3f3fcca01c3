use Rattle.std.proofs.Common.{◌/◌, length, refl, ◌∙◌, arith}
use Rattle.xs_lanes.proofs.Fours.{part_of_replicate}
use Rattle.xs_lanes.proofs.Steps.{done_more}
use Rattle.xs_lanes.proofs.fill.blocks.Goals as goal

pub loop-to-preserved : goal.loop-to-preserved
loop-to-preserved c =
    let done = c.loop-to.invariant in
    let part = part_of_replicate done.count 4 (length c.args.to.now / 4) c.args.p (omega (arith, done.whole, done.within)) in
    done_more _ _ _ _ 16 4 done refl (omega (arith, done.within)) c.spread-block.ensures.long (c.spread-block.ensures.value ∙ part)
