use Rattle.std.proofs.Common.{◌-◌, length}
use Rattle.std.specs.Simd.Lanes.{zip2}
use Rattle.xs_pixel.specs.PixelRows.{pixels}
use Rattle.xs_lanes.specs.Done.{Done}
use Rattle.xs_lanes.proofs.kernel.blocks.Given as goal

abbrev pub invariant-loop-at : goal.invariant-loop-at
invariant-loop-at g l = Done (zip2 g.K.Kernel.op (pixels l.u) (pixels l.d)) l.to l.at

abbrev pub decreases-loop-at : goal.decreases-loop-at
decreases-loop-at g l = length l.u - l.at
