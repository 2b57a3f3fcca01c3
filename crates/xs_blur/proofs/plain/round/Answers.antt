use Rattle.std.proofs.Common.{pos, ◌+ℤ◌, ◌-ℤ◌, w32, arith}
use Rattle.std.proofs.lemmas.Int.{ints, to_z_pos, to_z-of_z, fits_signed_from_abs}
use Rattle.xs_blur.proofs.plain.round.Goals as goal

pub returns : goal.returns
returns c =
    let m = to_z-of_z w32 c.args.middle c.ranges.middle in
    let n = to_z_pos w32 c.args.n (omega arith) in
    let k = to_z_pos w32 c.args.k (omega arith) in
    let left = to_z-of_z w32 (c.args.middle -ℤ pos c.args.n) (fits_signed_from_abs w32 _ (omega (arith, ints))) in
    let all = to_z-of_z w32 (c.args.middle -ℤ pos c.args.n +ℤ pos c.args.k) (fits_signed_from_abs w32 _ (omega (arith, ints))) in
    rw (m, n, k, left, all)
