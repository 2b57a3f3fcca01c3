use Rattle.std.proofs.Common.{w32, rules, arith}
use Rattle.std.proofs.lemmas.Int.{ints, to_z-of_z, fits_signed_from_abs}
use Rattle.xs_pixel.specs.Points.{point}
use Rattle.xs_bench.proofs.Cells.{apart_across, apart_up, corner_moved}
use Rattle.xs_bench.proofs.overlap.overlap_of.Goals as goal

pub returns-then-across-eq0-clause-none : goal.returns-then-across-eq0-clause-none
returns-then-across-eq0-clause-none c =
    let left = to_z-of_z w32 c.x.result (fits_signed_from_abs w32 _ (omega (arith, ints, c.x.ensures.range.0, c.x.ensures.range.1))) in
    let moved = corner_moved c.x0.result c.args.to.x c.x0.ensures.range c.args.to.near_x in
    apart_across c.args.rect c.args.g.now (point c.args.to.x c.args.to.y) c.shared_by-across.result
    (rw (left, moved, c.x.ensures.value, c.w.ensures.value, c.x0.ensures.value, c.w-2.ensures.value) at c.shared_by-across.ensures) (search rules)

pub returns-then-up-eq0-clause-none : goal.returns-then-up-eq0-clause-none
returns-then-up-eq0-clause-none c =
    let low = to_z-of_z w32 c.y.result (fits_signed_from_abs w32 _ (omega (arith, ints, c.y.ensures.range.0, c.y.ensures.range.1))) in
    let moved = corner_moved c.y0.result c.args.to.y c.y0.ensures.range c.args.to.near_y in
    apart_up c.args.rect c.args.g.now (point c.args.to.x c.args.to.y) c.shared_by-up.result
    (rw (low, moved, c.y.ensures.value, c.h.ensures.value, c.y0.ensures.value, c.h-2.ensures.value) at c.shared_by-up.ensures) (search rules)

pub returns-clause-some : goal.returns-clause-some
returns-clause-some c =
    let left = to_z-of_z w32 c.x.result (fits_signed_from_abs w32 _ (omega (arith, ints, c.x.ensures.range.0, c.x.ensures.range.1))) in
    let low = to_z-of_z w32 c.y.result (fits_signed_from_abs w32 _ (omega (arith, ints, c.y.ensures.range.0, c.y.ensures.range.1))) in
    let moved_x = corner_moved c.x0.result c.args.to.x c.x0.ensures.range c.args.to.near_x in
    let moved_y = corner_moved c.y0.result c.args.to.y c.y0.ensures.range c.args.to.near_y in
    record {
      across = rw (left, moved_x, c.x.ensures.value, c.w.ensures.value, c.x0.ensures.value, c.w-2.ensures.value) at c.shared_by-across.ensures;
      up = rw (low, moved_y, c.y.ensures.value, c.h.ensures.value, c.y0.ensures.value, c.h-2.ensures.value) at c.shared_by-up.ensures;
      wide = omega arith;
      high = omega arith;
    }
