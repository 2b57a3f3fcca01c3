use Rattle.std.proofs.Common.{w32, arith}
use Rattle.std.proofs.lemmas.Int.{ints, to_z-of_z}
use Rattle.xs_pixel.specs.Picture.{place_in_box}
use Rattle.xs_raster.proofs.Points.{place_fits}
use Rattle.xs_raster.proofs.rows.place.Goals as goal

pub returns-clause-value : goal.returns-clause-value
unfolding place_in_box
returns-clause-value c =
    let x = to_z-of_z w32 c.args.x c.ranges.x in
    let y = to_z-of_z w32 c.args.y c.ranges.y in
    let left = to_z-of_z w32 c.x.result (record { sfits = omega (arith, ints) }) in
    let low = to_z-of_z w32 c.y.result (record { sfits = c.y.type_inv }) in
    let rows = rw (y, low) at c.abs_diff-rows.ensures in
    let columns = rw (x, left) at c.abs_diff-columns.ensures in
    rw (rows, columns, c.w.ensures.value, c.x.ensures.value, c.y.ensures.value)

pub returns-clause-bound : goal.returns-clause-bound
returns-clause-bound c =
    let value = returns-clause-value c in
    let fits = place_fits c.args.rect c.args.x c.args.y 0 c.requires.across c.requires.up in
    omega (arith, value, fits)
