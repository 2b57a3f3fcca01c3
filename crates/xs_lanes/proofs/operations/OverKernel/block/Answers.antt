use Rattle.std.proofs.Common.{◌+◌, ◌-◌, ◌%◌, map, ap, ◌∙◌}
use Rattle.std.specs.Simd.Lanes.{zip2}
use Rattle.xs_pixel.specs.Operations.{product}
use Rattle.xs_pixel.specs.PixelRows.{pixels}
use Rattle.xs_lanes.proofs.Blocks.{over_block, over_clear, over_opaque}
use Rattle.xs_lanes.proofs.operations.OverKernel.block.Goals as goal

pub returns-then-are_all-clause-value : goal.returns-then-are_all-clause-value
returns-then-are_all-clause-value c =
    let none = rw c.mattes-matte.ensures.value at (c.are_all.ensures c.if-are_all.true) in
    over_clear 4 c.args.u c.args.d c.fits-u.0 c.fits-d.0 c.requires.first none

pub returns-then-are_all-2-clause-value : goal.returns-then-are_all-2-clause-value
returns-then-are_all-2-clause-value c =
    let full = rw c.mattes-matte.ensures.value at (c.are_all-2.ensures c.if-are_all-2.true) in
    over_opaque 4 c.args.u c.args.d c.fits-u.0 c.fits-d.0 full

pub returns-clause-value : goal.returns-clause-value
returns-clause-value c =
    let rest = c.complements.ensures.value ∙ ap (map (λ a. 255 - a)) c.mattes-matte.ensures.value in
    let shown = c.products.ensures.value ∙ ap (zip2 product c.args.d) rest in
    ap pixels (c.sums.ensures.value ∙ ap (zip2 (λ a b. (a + b) % 256) c.args.u) shown)
    ∙ over_block 4 c.args.u c.args.d c.fits-u.0 c.fits-d.0 c.requires.first c.requires.second
