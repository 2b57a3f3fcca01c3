use Rattle.std.proofs.Common.{◌≡◌, ℕ, ◌≤◌, ℤ, pos, ◌+ℤ◌, ◌-ℤ◌, ◌≤ℤ◌, unsigned_abs, ◌↔◌, arith}
use Rattle.std.specs.Int.{int_max, int_min}
use Rattle.std.proofs.lemmas.Int.{ints, clamps}
use Rattle.xs_rect.specs.Area.{IsNear, IsSide, Lies, IsPart}

-- from one place to a later one it is as far as their difference
pub pos_unsigned_abs : (from end : ℤ) → from ≤ℤ end → from +ℤ pos (unsigned_abs (end -ℤ from)) ≡ end
pos_unsigned_abs from end before = omega (arith, ints)

-- a row from the greater first place to the lesser end
pub record IsOverlap (a : ℤ) (a_len : ℕ) (b : ℤ) (b_len : ℕ) (from : ℤ) (len : ℕ) : Type 0 where
  pub first : from ≡ int_max a b
  pub end : from +ℤ pos len ≡ int_min (a +ℤ pos a_len) (b +ℤ pos b_len)

-- it lies within both rows
pub overlap_within : (a b from : ℤ) (a_len b_len len : ℕ) → IsOverlap a a_len b b_len from len → IsPart from len a a_len × IsPart from len b b_len
overlap_within a b from a_len b_len len h =
    ((omega (arith, ints, clamps), omega (arith, ints, clamps)), (omega (arith, ints, clamps), omega (arith, ints, clamps)))

-- it is in range where both rows are
pub overlap_range :
    (a b from : ℤ) (a_len b_len len : ℕ) → IsNear a × IsSide a_len → IsNear b × IsSide b_len
    → IsOverlap a a_len b b_len from len → 1 ≤ len → IsNear from × IsSide len
overlap_range a b from a_len b_len len first second h some =
    ((omega (arith, ints, clamps), omega (arith, ints, clamps)), (some, omega (arith, ints, clamps)))

-- its places are those of both rows
pub overlap_common : (a b from : ℤ) (a_len b_len len : ℕ) → IsOverlap a a_len b b_len from len → (z : ℤ) → Lies from len z ↔ (Lies a a_len z × Lies b b_len z)
overlap_common a b from a_len b_len len h z = (
  λ (l : Lies from len z). (
    record { least = omega (arith, ints, clamps); below = omega (arith, ints, clamps) },
    record { least = omega (arith, ints, clamps); below = omega (arith, ints, clamps) },
  ),
  λ (both : Lies a a_len z × Lies b b_len z).
      record { least = omega (arith, ints, clamps); below = omega (arith, ints, clamps) },
)

-- two rows of which the lesser end does not pass the greater first place share none
pub apart :
    (a b from end : ℤ) (a_len b_len : ℕ) → from ≡ int_max a b
    → end ≡ int_min (a +ℤ pos a_len) (b +ℤ pos b_len) → end ≤ℤ from → (z : ℤ) → Lies a a_len z
    → ¬ Lies b b_len z
apart a b from end a_len b_len start stop after z l m = omega (arith, ints, clamps)
