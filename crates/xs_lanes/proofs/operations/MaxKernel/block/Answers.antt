use Rattle.std.proofs.Common.{max, ap, ◌∙◌}
use Rattle.xs_pixel.specs.PixelRows.{pixels}
use Rattle.xs_lanes.proofs.Blocks.{pixels-zip2}
use Rattle.xs_lanes.proofs.operations.MaxKernel.block.Goals as goal

pub returns-clause-value : goal.returns-clause-value
returns-clause-value c = ap pixels c.greater.ensures.value ∙ pixels-zip2 max 4 c.args.u c.args.d c.fits-u.0 c.fits-d.0
