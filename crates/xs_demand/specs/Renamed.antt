-- Expressions whose drawings have other numbers, as those of a second scene have
use Rattle.std.specs.Prelude.{◌≡◌, ◌<◌, ℕ, All}
use Rattle.xs_meaning.specs.Expressions.{Expr, Clear, Leaf, Tinted, Card, Pair, Blur, drawings_of}
use Rattle.xs_demand.specs.Aliases.{Alias, alias}

-- each drawing under its new number
abbrev pub renamed : (ℕ → ℕ) → Expr → Expr
renamed names Clear = Clear
renamed names (Leaf d at) = Leaf (names d) at
renamed names (Tinted d at tint) = Tinted (names d) at tint
renamed names (Card pixel) = Card pixel
renamed names (Pair op a b) = Pair op (renamed names a) (renamed names b)
renamed names (Blur n a) = Blur n (renamed names a)

abbrev pub renamed_alias : (ℕ → ℕ) → Alias → Alias
renamed_alias names x = alias (renamed names x.expr) x.rect

-- of so many drawings each has a name of its own
abbrev pub AreDistinct : ℕ → (ℕ → ℕ) → Type 0
AreDistinct count names = (d e : ℕ) → d < count → e < count → names d ≡ names e → d ≡ e

-- an expression has only drawings below a number
abbrev pub HasBelow : ℕ → Expr → Type 0
HasBelow count e = All (λ d. d < count) (drawings_of e)
