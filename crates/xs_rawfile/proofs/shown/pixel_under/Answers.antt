use Rattle.std.proofs.Common.{◌∙◌, w32, get_or, refl, sym, ap}
use Rattle.std.proofs.lemmas.Int.{to_z-of_z}
use Rattle.xs_pixel.specs.Channels.{clear}
use Rattle.xs_rawfile.specs.Held.{picture_of}
use Rattle.xs_rawfile.proofs.Boxes.{item_inside, item_outside}
use Rattle.xs_rawfile.proofs.shown.pixel_under.Goals as goal

pub returns-in-Some : goal.returns-in-Some
returns-in-Some c =
    let p = picture_of c.args.palettes.now c.args.drawing.now c.args.number in
    let x = to_z-of_z w32 c.args.x c.ranges.x in
    let y = to_z-of_z w32 c.args.y c.ranges.y in
    let item = item_inside p p.coloured clear c.args.x c.args.y (rw (x, y) at (c.in-Some.ensures.within.0 refl)) in
    c.coloured_at.ensures ∙ (ap (λ k. get_or p.coloured k clear) (rw (x, y) at c.in-Some.ensures.inside) ∙ sym item)

pub returns-in-None : goal.returns-in-None
returns-in-None c =
    let p = picture_of c.args.palettes.now c.args.drawing.now c.args.number in
    let x = to_z-of_z w32 c.args.x c.ranges.x in
    let y = to_z-of_z w32 c.args.y c.ranges.y in
    sym (item_outside p p.coloured clear c.args.x c.args.y (rw (x, y) at c.in-None.ensures.within.1))
