use Rattle.std.proofs.Common.{◌-◌, ap, ◌∙◌}
use Rattle.std.specs.Simd.Lanes.{zip2}
use Rattle.xs_pixel.specs.PixelRows.{pixels}
use Rattle.xs_lanes.proofs.Blocks.{sub_block}
use Rattle.xs_lanes.proofs.operations.SubKernel.block.Goals as goal

pub returns-clause-value : goal.returns-clause-value
returns-clause-value c =
    ap pixels (c.differences.ensures.value ∙ ap (zip2 (λ a b. a - b) c.args.d) c.colours.ensures.value)
    ∙ sub_block 4 c.args.u c.args.d c.fits-u.0 c.fits-d.0 c.requires.first
