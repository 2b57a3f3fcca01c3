use Rattle.std.proofs.Common.{◌≡◌, pos, ◌+ℤ◌, w32, arith}
use Rattle.std.proofs.lemmas.Int.{ints, to_z_pos, to_z-of_z, fits_signed_from_abs}
use Rattle.xs_raster.proofs.Pasting.{pasted_none, pasted_more, pasted_all, pasted_apart}
use Rattle.xs_raster.proofs.rows.paste_into.Goals as goal

pub paste_line-requires-clause-up : goal.paste_line-requires-clause-up
paste_line-requires-clause-up c =
    let i = to_z_pos w32 c.loop-i.i (omega arith) in
    let low = to_z-of_z w32 c.y.result (record { sfits = omega (arith, ints) }) in
    let y = to_z-of_z w32 (c.y.result +ℤ pos c.loop-i.i) (fits_signed_from_abs w32 _ (omega (arith, ints))) in
    rw (low, i, y, c.y.ensures.value) (record { least = omega (arith, ints); below = omega (arith, ints) })

pub paste_line-requires-clause-mine : goal.paste_line-requires-clause-mine
paste_line-requires-clause-mine c = c.in-Some.ensures.within.0

pub paste_line-requires-clause-its : goal.paste_line-requires-clause-its
paste_line-requires-clause-its c = rw (← c.rect.ensures.area) c.in-Some.ensures.within.1

pub loop-i-init : goal.loop-i-init
loop-i-init c = record { points = pasted_none c.in-Some.common _ _; premultiplied = λ h. h }

pub loop-i-preserved : goal.loop-i-preserved
loop-i-preserved c =
    let i = to_z_pos w32 c.loop-i.i (omega arith) in
    let low = to_z-of_z w32 c.y.result (record { sfits = omega (arith, ints) }) in
    let y = to_z-of_z w32 (c.y.result +ℤ pos c.loop-i.i) (fits_signed_from_abs w32 _ (omega (arith, ints))) in
    record {
      points = pasted_more c.in-Some.common c.loop-i.i _ _ _ _ (omega arith)
          c.in-Some.ensures.within.0
          (rw (← c.rect.ensures.area) c.in-Some.ensures.within.1)
          (rw (low, i, y, c.y.ensures.value) at c.paste_line.ensures.long)
          c.loop-i.invariant.points
          (rw (low, i, y, c.y.ensures.value) at c.paste_line.ensures.row);
      premultiplied = λ h. c.paste_line.ensures.premultiplied (c.loop-i.invariant.premultiplied h);
    }

pub returns-clause-points : goal.returns-clause-points
returns-clause-points c =
    let all : c.loop-i.i ≡ c.in-Some.common.h = omega arith in
    rw (← c.raster-from.ensures)
    (pasted_all c.in-Some.common _ _ _ (rw (c.rect.ensures.area) at c.in-Some.ensures.common) (rw all at c.loop-i.invariant.points))

pub returns-clause-premultiplied : goal.returns-clause-premultiplied
returns-clause-premultiplied c = c.loop-i.invariant.premultiplied

pub returns-in_default-clause-points : goal.returns-in_default-clause-points
returns-in_default-clause-points c =
    rw (← c.raster-from.ensures) (pasted_apart _ _ (rw (c.rect.ensures.area) at c.in_default.ensures.none))
