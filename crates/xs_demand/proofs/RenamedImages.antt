-- An expression with renamed drawings, over pictures by their new numbers
use Rattle.std.proofs.Common.{ℕ, ◌+◌, ◌≡◌, max, ◌++◌, map, refl, sym, ap, ap₂, ◌∙◌}
use Rattle.std.proofs.lemmas.List.{map-append}
use mathlib.Core.Path.{fun_ext}
use Rattle.xs_pixel.specs.Images.{blurred}
use Rattle.xs_pixel.specs.Operations.{apply_of}
use Rattle.xs_pixel.specs.Picture.{Pictures}
use Rattle.xs_pixel.specs.Points.{Point}
use Rattle.xs_meaning.specs.Expressions.{Expr, Clear, Leaf, Tinted, Card, Pair, Blur, drawings_of, reach_of, is_clear}
use Rattle.xs_demand.specs.Aliases.{size_of}
use Rattle.xs_demand.specs.Images.{image_of}
use Rattle.xs_demand.specs.Renamed.{renamed}
use Rattle.xs_demand.specs.Tints.{tints_within}

pub image-renamed : (names : ℕ → ℕ) (pictures : Pictures) (e : Expr) (q : Point)
    → image_of pictures (renamed names e) q ≡ image_of (λ d. pictures (names d)) e q
unfolding image_of
image-renamed names pictures Clear q = refl
image-renamed names pictures (Leaf d at) q = refl
image-renamed names pictures (Tinted d at tint) q = refl
image-renamed names pictures (Card pixel) q = refl
image-renamed names pictures (Pair op a b) q =
    ap₂ (apply_of op) (image-renamed names pictures a q) (image-renamed names pictures b q)
image-renamed names pictures (Blur n a) q = ap (λ image. blurred n image q) (fun_ext (image-renamed names pictures a))

pub drawings-renamed : (names : ℕ → ℕ) (e : Expr) → drawings_of (renamed names e) ≡ map names (drawings_of e)
drawings-renamed names Clear = refl
drawings-renamed names (Leaf d at) = refl
drawings-renamed names (Tinted d at tint) = refl
drawings-renamed names (Card pixel) = refl
drawings-renamed names (Pair op a b) =
    ap₂ (λ xs ys. xs ++ ys) (drawings-renamed names a) (drawings-renamed names b)
    ∙ sym (map-append names (drawings_of a) (drawings_of b))
drawings-renamed names (Blur n a) = drawings-renamed names a

pub reach-renamed : (names : ℕ → ℕ) (e : Expr) → reach_of (renamed names e) ≡ reach_of e
reach-renamed names Clear = refl
reach-renamed names (Leaf d at) = refl
reach-renamed names (Tinted d at tint) = refl
reach-renamed names (Card pixel) = refl
reach-renamed names (Pair op a b) = ap₂ max (reach-renamed names a) (reach-renamed names b)
reach-renamed names (Blur n a) = ap (λ reach. n + reach) (reach-renamed names a)

pub size-renamed : (names : ℕ → ℕ) (e : Expr) → size_of (renamed names e) ≡ size_of e
size-renamed names Clear = refl
size-renamed names (Leaf d at) = refl
size-renamed names (Tinted d at tint) = refl
size-renamed names (Card pixel) = refl
size-renamed names (Pair op a b) = ap₂ (λ m n. 1 + (m + n)) (size-renamed names a) (size-renamed names b)
size-renamed names (Blur n a) = ap (λ m. 1 + m) (size-renamed names a)

pub clear-renamed : (names : ℕ → ℕ) (e : Expr) → is_clear (renamed names e) ≡ is_clear e
clear-renamed names Clear = refl
clear-renamed names (Leaf d at) = refl
clear-renamed names (Tinted d at tint) = refl
clear-renamed names (Card pixel) = refl
clear-renamed names (Pair op a b) = refl
clear-renamed names (Blur n a) = refl

pub tints-renamed : (names : ℕ → ℕ) (e : Expr) → tints_within (renamed names e) ≡ tints_within e
tints-renamed names Clear = refl
tints-renamed names (Leaf d at) = refl
tints-renamed names (Tinted d at tint) = refl
tints-renamed names (Card pixel) = refl
tints-renamed names (Pair op a b) = ap₂ (λ xs ys. xs ++ ys) (tints-renamed names a) (tints-renamed names b)
tints-renamed names (Blur n a) = tints-renamed names a
