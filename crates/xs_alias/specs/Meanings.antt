use Rattle.std.specs.Prelude.{◌≡◌, ◌<◌, ℕ, List, [], ◌∷◌, ◌++◌, Some, slice_get, slice_index_or}
use Rattle.xs_pixel.specs.Channels.{Channels}
use Rattle.xs_pixel.specs.Points.{point}
use Rattle.xs_meaning.specs.Expressions.{Expr, Clear, Leaf, Tinted, Card, Pair, Blur}
use Rattle.xs_alias.specs.declared.key.Key.{Key}
use Rattle.xs_alias.specs.declared.key.Key.TheVariants as key

abbrev pub expr_at : List Expr → ℕ → Expr
expr_at es n = slice_index_or es n Clear

-- what a key stands for under a list of tints, where the earlier numbers stand for es
abbrev pub stands_for : List (List Channels) → List Expr → Key → Expr
stands_for tints es key.Clear = Clear
stands_for tints es (key.Leaf drawing dx dy) = Leaf drawing (point dx dy)
stands_for tints es (key.Tinted drawing dx dy tint) = Tinted drawing (point dx dy) (slice_index_or tints tint [])
stands_for tints es (key.Card pixel) = Card pixel
stands_for tints es (key.Pair op a b) = Pair op (expr_at es a) (expr_at es b)
stands_for tints es (key.Blur a radius) = Blur radius (expr_at es a)

-- the expressions of keys, each over those before it, after es
abbrev pub meanings_after : List (List Channels) → List Expr → List Key → List Expr
meanings_after tints es [] = es
meanings_after tints es (k ∷ keys) = meanings_after tints (es ++ stands_for tints es k ∷ []) keys

abbrev pub meanings : List (List Channels) → List Key → List Expr
meanings tints keys = meanings_after tints [] keys

-- the expression of a number
abbrev pub meaning : List (List Channels) → List Key → ℕ → Expr
meaning tints keys n = expr_at (meanings tints keys) n

-- the tint of a key is one of so many
abbrev pub IsTinted : ℕ → Key → Type 0
IsTinted count key.Clear = Unit {0}
IsTinted count (key.Leaf drawing dx dy) = Unit {0}
IsTinted count (key.Tinted drawing dx dy tint) = tint < count
IsTinted count (key.Card pixel) = Unit {0}
IsTinted count (key.Pair op a b) = Unit {0}
IsTinted count (key.Blur a radius) = Unit {0}

abbrev pub AreTinted : ℕ → List Key → Type 0
AreTinted count keys = (n : ℕ) (k : Key) → slice_get keys n ≡ Some k → IsTinted count k
