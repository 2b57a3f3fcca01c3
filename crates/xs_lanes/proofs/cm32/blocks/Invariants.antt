use Rattle.std.proofs.Common.{◌-◌, length}
use Rattle.xs_pixel.specs.PixelRows.{pixels}
use Rattle.xs_cm32.specs.Word.{colour_under}
use Rattle.xs_lanes.specs.WordColours.{looked_up}
use Rattle.xs_lanes.proofs.Kept.{Kept}
use Rattle.xs_lanes.proofs.cm32.blocks.Given as goal

abbrev pub invariant-loop-at : goal.invariant-loop-at
invariant-loop-at l = Kept (colour_under (looked_up (pixels l.table) l.last)) l.row l.to l.at l.seen l.made

abbrev pub decreases-loop-at : goal.decreases-loop-at
decreases-loop-at l = length l.row - l.at
