use Rattle.std.proofs.Common.{◌≡◌, ◌/◌, length, refl, ◌∙◌, arith}
use Rattle.xs_lanes.proofs.Fours.{part_of_replicate}
use Rattle.xs_lanes.proofs.Steps.{done_more}
use Rattle.xs_lanes.proofs.fill.rest.Goals as goal

pub loop-at-preserved : goal.loop-at-preserved
loop-at-preserved c =
    let done = c.loop-at.invariant in
    let four : length c.to_bytes-pixel.result ≡ 4 = omega arith in
    let part = part_of_replicate done.count 1 (length c.args.to.now / 4) c.args.p (omega (arith, done.whole)) in
    done_more _ _ _ _ 4 1 done refl (omega (arith, done.whole)) four (c.to_bytes-pixel.ensures.bytes ∙ part)
