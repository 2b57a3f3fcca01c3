use Rattle.std.proofs.Common.{◌-ℤ◌, pos, w32, arith}
use Rattle.std.proofs.lemmas.Int.{ints, to_z_pos, to_z-of_z, fits_signed_from_abs}
use Rattle.xs_rect.proofs.rect.Rect.grow.Goals as goal

pub returns : goal.returns
returns c =
    let n = to_z_pos w32 c.args.n (omega arith) in
    let x = to_z-of_z w32 c.self.inside.x (record { sfits = omega (arith, ints) }) in
    let y = to_z-of_z w32 c.self.inside.y (record { sfits = omega (arith, ints) }) in
    let left = to_z-of_z w32 (c.self.inside.x -ℤ pos c.args.n) (fits_signed_from_abs w32 _ (omega (arith, ints))) in
    let low = to_z-of_z w32 (c.self.inside.y -ℤ pos c.args.n) (fits_signed_from_abs w32 _ (omega (arith, ints))) in
    record {
      valid = rw (← c.self.view_is) (rw (n, x, y, left, low) at c.new.ensures.valid);
      value = rw (← c.self.view_is) (rw (n, x, y, left, low) at c.new.ensures.value);
    }
