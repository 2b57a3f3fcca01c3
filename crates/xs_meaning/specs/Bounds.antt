use Rattle.std.specs.Prelude.{ℕ, pos, neg_ℤ, ◌≤ℤ◌}
use Rattle.xs_meaning.specs.Expressions.{Expr, Clear, Leaf, Tinted, Card, Pair, Blur}
use Rattle.xs_pixel.specs.Points.{Point}

-- both coordinates are from -n to n
pub record IsWithin (n : ℕ) (p : Point) : Type 0 where
  pub left : neg_ℤ (pos n) ≤ℤ p.x
  pub right : p.x ≤ℤ pos n
  pub bottom : neg_ℤ (pos n) ≤ℤ p.y
  pub top : p.y ≤ℤ pos n

-- each drawing of an expression stands at an offset within n
abbrev pub LeavesWithin : ℕ → Expr → Type 0
LeavesWithin n Clear = Unit {0}
LeavesWithin n (Leaf d at) = IsWithin n at
LeavesWithin n (Tinted d at tint) = IsWithin n at
LeavesWithin n (Card pixel) = Unit {0}
LeavesWithin n (Pair op a b) = LeavesWithin n a × LeavesWithin n b
LeavesWithin n (Blur radius a) = LeavesWithin n a
