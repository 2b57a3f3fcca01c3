use Rattle.std.proofs.Common.{w32, refl, ◌∙◌}
use Rattle.std.proofs.lemmas.Int.{to_z-of_z}
use Rattle.xs_pixel.specs.Points.{point}
use Rattle.xs_direct.proofs.FilterLemmas.{dropped_of-Open}
use Rattle.xs_direct.proofs.FrameLemmas.{row-whole}
use Rattle.xs_direct.proofs.frame.pixel_at.Goals as goal

pub returns : goal.returns
returns g c =
    let x = to_z-of_z w32 c.args.x c.ranges.x in
    let y = to_z-of_z w32 c.args.y c.ranges.y in
    rw (x, y) at c.pixel.ensures ∙ row-whole _ c.args.row (point c.args.x c.args.y) refl c.row.ensures dropped_of-Open
