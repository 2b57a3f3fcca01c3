-- A division by a multiplication: the quotient of a sum by the number of its parts.
use Rattle.std.proofs.Common.{◌≡◌, ℕ, ◌+◌, ◌*◌, ◌/◌, ◌<◌, ◌≤◌, inl, inr, arith}
use Rattle.std.proofs.lemmas.Bool.{cases_lt}
use Rattle.std.proofs.Math.Nat.{mul-le-mul_left, mul-le-mul_right}

-- the multiple of the factor lies within the same multiple of 2 ^ 32
bounded_below : (s d m q : ℕ) → d * q ≤ s → 4294967296 ≤ d * m → 4294967296 * q ≤ s * m
bounded_below s d m q part whole =
    let first : (d * q) * m ≤ s * m = mul-le-mul_right m part in
    let second : q * 4294967296 ≤ q * (d * m) = mul-le-mul_left q whole in
    omega (arith, first, second)

bounded_above :
    (s d m q : ℕ) → 0 < d → d ≤ 1089 → s ≤ 255 * d → s < d * q + d → d * m ≤ 4294967296 + d
    → s * m < 4294967296 * q + 4294967296
bounded_above s d m q some few small rest whole = elim (cases_lt (s * m) (4294967296 * q + 4294967296)) [
  | inl below ↦ below
  | inr above ↦
      let far : d * (4294967296 * q + 4294967296) ≤ d * (s * m) = mul-le-mul_left d above in
      let near : s * (d * m) ≤ s * (4294967296 + d) = mul-le-mul_left s whole in
      let parts : s * d ≤ (255 * d) * d = mul-le-mul_right d small in
      let squares : d * d ≤ 1089 * d = mul-le-mul_right d few in
      absurd (omega (arith, far, near, parts, squares))
]

pub quotient_by_factor :
    (s d m : ℕ) → 0 < d → d ≤ 1089 → s ≤ 255 * d → m ≡ 4294967296 / d + 1 → s * m / 4294967296 ≡ s / d
quotient_by_factor s d m some few small is =
    let factor : d * m ≡ d * (4294967296 / d) + d = rw is (omega arith) in
    let above : 4294967296 ≤ d * m = omega (arith, factor) in
    let below : d * m ≤ 4294967296 + d = omega (arith, factor) in
    let least = bounded_below s d m (s / d) (omega arith) above in
    let most = bounded_above s d m (s / d) some few small (omega arith) below in
    omega (arith, least, most)
