-- After the loop there are all.
use Rattle.std.proofs.Common.{◌≡◌, replicate, ap, ◌∙◌, arith}
use Rattle.xs_timing.specs.declared.plans.TheConstants.{TILES}
use Rattle.xs_timing.proofs.plans.copies.Goals as goal

pub returns : goal.returns
returns c =
    let whole : c.loop-tile._tile ≡ TILES = omega arith in
    c.loop-tile.invariant ∙ ap (λ n. replicate n c.args.tile) whole
