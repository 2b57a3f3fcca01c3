use Rattle.std.proofs.Common.{refl, ◌∙◌, arith}
use Rattle.xs_pixel.specs.PixelRows.{pixels}
use Rattle.xs_cm32.specs.Word.{colour_under}
use Rattle.xs_lanes.specs.WordColours.{looked_up}
use Rattle.xs_lanes.proofs.Fours.{part_of_map}
use Rattle.xs_lanes.proofs.Steps.{done_more}
use Rattle.xs_lanes.proofs.cm32.blocks.Goals as goal

pub loop-at-preserved : goal.loop-at-preserved
loop-at-preserved c =
    let done = c.loop-at.invariant.done in
    let colour = colour_under (looked_up (pixels c.args.table.now) c.args.last) in
    let part = part_of_map colour c.loop-at.at done.count 16 4 c.args.row.now done.whole refl in
    record {
      done = done_more _ _ _ _ 16 4 done refl (omega (arith, done.within)) c.colours_after-made.ensures.long (c.colours_after-made.ensures.value ∙ part);
      long = c.colours_after-made.ensures.long;
      known = c.colours_after-made.ensures.value;
    }
