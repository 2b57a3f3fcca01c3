use Rattle.std.proofs.Common.{min, ap, ◌∙◌}
use Rattle.xs_pixel.specs.PixelRows.{pixels}
use Rattle.xs_lanes.proofs.Blocks.{pixels-zip2}
use Rattle.xs_lanes.proofs.operations.MinKernel.block.Goals as goal

pub returns-clause-value : goal.returns-clause-value
returns-clause-value c = ap pixels c.lesser.ensures.value ∙ pixels-zip2 min 4 c.args.u c.args.d c.fits-u.0 c.fits-d.0
