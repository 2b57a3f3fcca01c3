-- Points that move stay near the origin
use Rattle.std.proofs.Common.{ℕ, ◌≡◌, ◌+◌, ◌≤◌, subst, sym, arith}
use Rattle.std.proofs.lemmas.Int.{ints}
use Rattle.xs_meaning.specs.Bounds.{IsWithin}
use Rattle.xs_pixel.specs.Points.{Point, plus, minus}
use Rattle.xs_direct.specs.Room.{CanMove}

pub CanMove-less : (room rest : ℕ) (p : Point) → rest ≤ room → CanMove room p → CanMove rest p
CanMove-less room rest p less has =
    record {
      left = omega (arith, ints, has.left);
      right = omega (arith, ints, has.right);
      bottom = omega (arith, ints, has.bottom);
      top = omega (arith, ints, has.top);
    }

pub CanMove-minus :
    (room rest n : ℕ) (p q r : Point) → rest + n ≤ room → CanMove room p → IsWithin n q → r ≡ minus p q → CanMove rest r
CanMove-minus room rest n p q r less has near is =
    let there : CanMove rest (minus p q) = record {
      left = omega (arith, ints, has.left, near.right);
      right = omega (arith, ints, has.right, near.left);
      bottom = omega (arith, ints, has.bottom, near.top);
      top = omega (arith, ints, has.top, near.bottom);
    } in
    subst (CanMove rest) (sym is) there

pub CanMove-plus :
    (room rest n : ℕ) (p q r : Point) → rest + n ≤ room → CanMove room p → IsWithin n q → r ≡ plus p q → CanMove rest r
CanMove-plus room rest n p q r less has near is =
    let there : CanMove rest (plus p q) = record {
      left = omega (arith, ints, has.left, near.left);
      right = omega (arith, ints, has.right, near.right);
      bottom = omega (arith, ints, has.bottom, near.bottom);
      top = omega (arith, ints, has.top, near.top);
    } in
    subst (CanMove rest) (sym is) there
