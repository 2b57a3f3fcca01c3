use Rattle.std.proofs.Common.{◌≡◌, ◌+◌, ◌-◌, ◌*◌, arith, rules}
use Rattle.xs_raster.proofs.rows.pixels_from.Goals as goal

pub returns-clause-pixels : goal.returns-clause-pixels
returns-clause-pixels c =
    let size : 4 * (c.args.at + c.args.n) - 4 * c.args.at ≡ 4 * c.args.n = omega arith in
    rw size (c.rows_of_bytes_are_rows_of_pixels.ensures.part c.args.at c.args.n c.args.bytes.now)

pub returns-clause-count : goal.returns-clause-count
returns-clause-count c = c.rows_of_bytes_are_rows_of_pixels.ensures.count c.args.n _ (search rules)
