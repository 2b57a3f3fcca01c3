-- What the roots of rows are like
use Rattle.std.specs.Prelude.{◌≡◌, ◌<◌, ◌≤◌, ℕ, false}
use Rattle.xs_base.specs.declared.limits.TheConstants.{GREATEST_RADIUS}
use Rattle.xs_meaning.specs.Expressions.{Expr, Clear, Leaf, Tinted, Card, Pair, Blur, is_clear}
use Rattle.xs_plan.specs.Valid.{IsOffset}

-- an expression as a plan may have it: its drawings are below a number and moved by offsets that are not too far,
-- no input is clear, and radii are in range
abbrev pub IsFit : ℕ → Expr → Type 0
IsFit drawings Clear = Unit {0}
IsFit drawings (Leaf d at) = (d < drawings) × IsOffset at.x × IsOffset at.y
IsFit drawings (Tinted d at tint) = (d < drawings) × IsOffset at.x × IsOffset at.y
IsFit drawings (Card pixel) = Unit {0}
IsFit drawings (Pair op a b) =
    (is_clear a ≡ false) × (is_clear b ≡ false) × IsFit drawings a × IsFit drawings b
IsFit drawings (Blur n a) = (1 ≤ n) × (n ≤ GREATEST_RADIUS) × (is_clear a ≡ false) × IsFit drawings a
