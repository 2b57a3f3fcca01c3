-- What the program adds on a line from one key to the next
use Rattle.std.proofs.Common.{ℕ, ◌≡◌, ◌≤◌, ◌<◌, ℤ, pos, ◌+ℤ◌, ◌-ℤ◌, ◌*ℤ◌, unsigned_abs, w32, ap, ap₂, ◌∙◌, ⊎_elim, arith}
use Rattle.std.specs.Int.{int_div_euclid, cast_signed, cast_unsigned}
use Rattle.std.proofs.lemmas.Int.{ints, to_z-of_z, to_z_pos, fits_signed_mul}
use Rattle.xs_scene.specs.Ranges.{IsOffset}
use Rattle.xs_meaning.specs.Places.{on_line, LiesBetween}

-- what the program makes of a signed number that fits
abbrev stored : ℤ → ℤ
stored x = cast_signed w32 (cast_unsigned w32 x)

pub line_is :
    (from to part : ℤ) (done whole : ℕ) → IsOffset from → IsOffset to → done < whole → whole ≤ 9999
    → part ≡ int_div_euclid (stored (stored (stored to -ℤ stored from) *ℤ cast_signed w32 done)) (cast_signed w32 whole)
    → from +ℤ part ≡ on_line from to done whole
unfolding on_line
line_is from to part done whole start end less few is =
    let distance : stored (stored to -ℤ stored from) ≡ to -ℤ from = omega (arith, ints, start, end) in
    let far : unsigned_abs (to -ℤ from) ≤ 131072 = omega (arith, ints, start, end) in
    let product : stored (stored (stored to -ℤ stored from) *ℤ cast_signed w32 done) ≡ (to -ℤ from) *ℤ pos done =
    ap₂ (λ x y. stored (x *ℤ y)) distance (to_z_pos w32 done (omega arith))
    ∙ to_z-of_z w32 ((to -ℤ from) *ℤ pos done) (fits_signed_mul w32 (to -ℤ from) (pos done) 131072 9999 far (omega arith) (omega arith))
    in
    ap (λ part. from +ℤ part) (is ∙ ap₂ int_div_euclid product (to_z_pos w32 whole (omega arith)))

-- what lies between two offsets is one
pub between-offset : (from to x : ℤ) → IsOffset from → IsOffset to → LiesBetween from to x → IsOffset x
between-offset from to x start end is =
    ⊎_elim (λ h. (omega (arith, ints), omega (arith, ints))) (λ h. (omega (arith, ints), omega (arith, ints))) is
