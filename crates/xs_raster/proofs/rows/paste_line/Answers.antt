use Rattle.std.proofs.Common.{◌≡◌, ◌∙◌, w32, arith}
use Rattle.std.proofs.lemmas.Int.{ints, to_z-of_z}
use Rattle.xs_pixel.specs.PixelRows.{pixels}
use Rattle.xs_raster.specs.Bitmap.{part_of}
use Rattle.xs_raster.proofs.rows.paste_line.Goals as goal

pub returns-clause-long : goal.returns-clause-long
returns-clause-long c =
    let x = to_z-of_z w32 c.x-2.result (record { sfits = omega (arith, ints) }) in
    let y = to_z-of_z w32 c.args.y c.ranges.y in
    let read : pixels c.part.result.now ≡ part_of c.args.from.now c.args.common c.args.y = rw (x, y, c.x-2.ensures.value, c.w.ensures.value) at c.part.ensures.pixels in
    rw (← read) (c.part.ensures.count ∙ c.w.ensures.value)

pub returns-clause-row : goal.returns-clause-row
returns-clause-row c =
    let other = to_z-of_z w32 c.x-2.result (record { sfits = omega (arith, ints) }) in
    let x = to_z-of_z w32 c.x.result (record { sfits = omega (arith, ints) }) in
    let y = to_z-of_z w32 c.args.y c.ranges.y in
    let read : pixels c.part.result.now ≡ part_of c.args.from.now c.args.common c.args.y = rw (other, y, c.x-2.ensures.value, c.w.ensures.value) at c.part.ensures.pixels in
    rw (x, y, c.x.ensures.value, read) at c.put_line.ensures.points

pub returns-clause-premultiplied : goal.returns-clause-premultiplied
returns-clause-premultiplied c = λ old. c.put_line.ensures.premultiplied old c.part.ensures.premultiplied
