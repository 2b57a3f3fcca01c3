use Rattle.std.proofs.Common.{sym, ◌∙◌}
use Rattle.std.proofs.lemmas.Simd.{length-zip2}
use Rattle.xs_lanes.proofs.lanes.sums.Goals as goal

pub returns-clause-long : goal.returns-clause-long
returns-clause-long c = length-zip2 _ c.args.x c.args.y (c.fits-x.0 ∙ sym c.fits-y.0) ∙ c.fits-x.0
