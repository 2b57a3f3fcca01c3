use Rattle.std.proofs.Common.{◌-◌, map, ap, ◌∙◌}
use Rattle.std.specs.Simd.Lanes.{zip2}
use Rattle.xs_pixel.specs.Operations.{product}
use Rattle.xs_pixel.specs.PixelRows.{pixels}
use Rattle.xs_lanes.proofs.Blocks.{matte_out_block}
use Rattle.xs_lanes.proofs.operations.MatteOutKernel.block.Goals as goal

pub returns-clause-value : goal.returns-clause-value
returns-clause-value c =
    ap pixels
    (c.products.ensures.value ∙ ap (zip2 product c.args.u) (c.complements.ensures.value ∙ ap (map (λ a. 255 - a)) c.mattes.ensures.value))
    ∙ matte_out_block 4 c.args.u c.args.d c.fits-u.0 c.fits-d.0
