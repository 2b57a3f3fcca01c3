use Rattle.std.proofs.Common.{◌-◌, length, map}
use Rattle.xs_cm32.specs.WordRows.{words}
use Rattle.xs_cm32.specs.Word.{colour_under}
use Rattle.xs_palette.specs.Styles.{style_of}
use Rattle.xs_lanes.specs.Done.{Done}
use Rattle.xs_lanes.proofs.cm32.rest.Given as goal

abbrev pub invariant-loop-at : goal.invariant-loop-at
invariant-loop-at l = Done (map (colour_under (style_of l.p)) (words l.row)) l.to l.at

abbrev pub decreases-loop-at : goal.decreases-loop-at
decreases-loop-at l = length l.row - l.at
