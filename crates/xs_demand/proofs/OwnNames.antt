-- Where each drawing is named by its own number, an expression stays as it is
use Rattle.std.proofs.Common.{◌≡◌, ◌<◌, ℕ, [], refl, ap, ap₂}
use Rattle.std.proofs.lemmas.List.Elements.{All-head}
use Rattle.xs_meaning.specs.Expressions.{Expr, Clear, Leaf, Tinted, Card, Pair, Blur, drawings_of}
use Rattle.xs_demand.specs.Renamed.{renamed, HasBelow}
use Rattle.xs_demand.proofs.RenamedAliases.{All-first, All-last}

pub renamed-own :
    (count : ℕ) (names : ℕ → ℕ) → ((d : ℕ) → d < count → names d ≡ d) → (e : Expr) → HasBelow count e → renamed names e ≡ e
renamed-own count names own Clear below = refl
renamed-own count names own (Leaf d at) below = ap (λ (n : ℕ). Leaf n at) (own d (All-head (λ (k : ℕ). k < count) d [] below))
renamed-own count names own (Tinted d at tint) below =
    ap (λ (n : ℕ). Tinted n at tint) (own d (All-head (λ (k : ℕ). k < count) d [] below))
renamed-own count names own (Card pixel) below = refl
renamed-own count names own (Pair op a b) below =
    ap₂ (λ (x y : Expr). Pair op x y)
    (renamed-own count names own a (All-first (λ (k : ℕ). k < count) (drawings_of a) (drawings_of b) below))
    (renamed-own count names own b (All-last (λ (k : ℕ). k < count) (drawings_of a) (drawings_of b) below))
renamed-own count names own (Blur n a) below = ap (λ (x : Expr). Blur n x) (renamed-own count names own a below)
