use Rattle.std.proofs.Common.{w32, sym, ◌∙◌, arith}
use Rattle.std.proofs.lemmas.Int.{ints, to_z-of_z}
use Rattle.xs_pixel.specs.Picture.{place_in_box}
use Rattle.xs_rawfile.proofs.drawing.Drawing.place.Goals as goal

pub returns-then-contains-clause-inside : goal.returns-then-contains-clause-inside
unfolding place_in_box
returns-then-contains-clause-inside c =
    let x = to_z-of_z w32 c.args.x c.ranges.x in
    let y = to_z-of_z w32 c.args.y c.ranges.y in
    let left = to_z-of_z w32 c.self.inside.x0 (record { sfits = omega (arith, ints) }) in
    let low = to_z-of_z w32 c.self.inside.y0 (record { sfits = omega (arith, ints) }) in
    let rows = rw (y, low) at c.abs_diff-row.ensures in
    let columns = rw (x, left) at c.abs_diff-column.ensures in
    rw (← c.self.view_is, rows, columns)

pub returns-then-contains-clause-room : goal.returns-then-contains-clause-room
returns-then-contains-clause-room c =
    let self = c.self.inside in
    let x = to_z-of_z w32 c.args.x c.ranges.x in
    let y = to_z-of_z w32 c.args.y c.ranges.y in
    let place = rw (← c.self.view_is) at (returns-then-contains-clause-inside c) in
    let held = rw (← c.self.view_is) at (sym c.contains.ensures ∙ c.if-contains.true) in
    let room = c.points_of_a_box_have_places.ensures self.x0 self.y0 self.w self.h c.args.x c.args.y (rw (x, y) at held) in
    rw (← c.self.view_is) (omega (arith, place, c.self.invariant.whole, room))
