-- What vanishes from an expression changes no value
use Rattle.std.proofs.Common.{ℕ, ◌≡◌, refl, sym, ap, ap₂, ◌∙◌, Bool, true, false, Option, Some, None, option_map, add-zero, zero-add, arith}
use Rattle.std.proofs.lemmas.Bool.{cond_both}
use Rattle.xs_pixel.specs.Channels.{Channels, clear, IsPixel}
use Rattle.xs_pixel.specs.Operations.{apply_of, over_of, add_of}
use Rattle.xs_pixel.specs.declared.operation.Op.{Op}
use Rattle.xs_pixel.specs.declared.operation.Op.TheVariants.{Over, Add, Sub, Mult, Min, Max, MatteIn, MatteOut}
use Rattle.xs_pixel.proofs.Products.{product-zero_left, product-zero_right, product-opaque}
use Rattle.xs_scene.specs.Records.{SceneRecord, ColoursRecord}
use Rattle.xs_pixel.specs.Picture.{Pictures}
use Rattle.xs_meaning.specs.Drawings.{colours_of, colouring_at, drawing_pixel}
use Rattle.xs_meaning.specs.Expressions.{Expr, Clear, Leaf, Tinted, Card, Pair, Blur, is_clear, staying, with_clear_first, with_clear_second, pair_staying, pair_of, blur_of, card_of, leaf_by, value_of}
use Rattle.xs_meaning.specs.Palettes.{Dropped, is_as_written, is_clear_pixel, as_written, style_at, tint_at}
use Rattle.xs_pixel.specs.Points.{Point, minus}
use Rattle.xs_pixel.specs.Images.{blurred}
use Rattle.xs_meaning.proofs.Blurs.{blurred-clear}
use Rattle.xs_meaning.proofs.Tints.{same_pixel_true, as_written-is_as_written, tint_style-tint_at}

-- the operation on a clear first pixel, and on a clear second one

over-clear_first : (p : Channels) → IsPixel p → over_of clear p ≡ p
over-clear_first p pixel = simp (product-opaque, zero-add)

over-clear_second : (p : Channels) → over_of p clear ≡ p
over-clear_second p = simp (product-zero_left, add-zero)

add-clear_first : (p : Channels) → IsPixel p → add_of clear p ≡ p
add-clear_first p pixel = search arith

add-clear_second : (p : Channels) → IsPixel p → add_of p clear ≡ p
add-clear_second p pixel = search arith

-- a clear first input, and a clear second one: what stays has the value of the pair

clear_first_vanishes :
    (s : SceneRecord) (pictures : Pictures) (op : Op) (a b : Expr) (p : Point) (d : Channels)
    → IsPixel d → value_of s pictures b p ≡ d
    → value_of s pictures (pair_staying (with_clear_first op) op a b) p ≡ apply_of op clear d
unfolding value_of
clear_first_vanishes s pictures Over a b p d pixel is = is ∙ sym (over-clear_first d pixel)
clear_first_vanishes s pictures Add a b p d pixel is = is ∙ sym (add-clear_first d pixel)
clear_first_vanishes s pictures Sub a b p d pixel is = is ∙ search arith
clear_first_vanishes s pictures Mult a b p d pixel is = simp product-zero_left
clear_first_vanishes s pictures Min a b p d pixel is = search arith
clear_first_vanishes s pictures Max a b p d pixel is = is ∙ search arith
clear_first_vanishes s pictures MatteIn a b p d pixel is = simp product-zero_left
clear_first_vanishes s pictures MatteOut a b p d pixel is = simp product-zero_left

clear_second_vanishes :
    (s : SceneRecord) (pictures : Pictures) (op : Op) (a b : Expr) (p : Point) (u : Channels)
    → IsPixel u → value_of s pictures a p ≡ u
    → value_of s pictures (pair_staying (with_clear_second op) op a b) p ≡ apply_of op u clear
unfolding value_of
clear_second_vanishes s pictures Over a b p u pixel is = is ∙ sym (over-clear_second u)
clear_second_vanishes s pictures Add a b p u pixel is = is ∙ sym (add-clear_second u pixel)
clear_second_vanishes s pictures Sub a b p u pixel is = search arith
clear_second_vanishes s pictures Mult a b p u pixel is = simp product-zero_right
clear_second_vanishes s pictures Min a b p u pixel is = search arith
clear_second_vanishes s pictures Max a b p u pixel is = is ∙ search arith
clear_second_vanishes s pictures MatteIn a b p u pixel is = simp product-zero_right
clear_second_vanishes s pictures MatteOut a b p u pixel is = is ∙ simp product-opaque

is_clear_true : (e : Expr) → is_clear e ≡ true → e ≡ Clear
is_clear_true Clear same = refl
is_clear_true (Leaf d at) same = cc
is_clear_true (Tinted d at tint) same = cc
is_clear_true (Card pixel) same = cc
is_clear_true (Pair op a b) same = cc
is_clear_true (Blur n a) same = cc

value-clear : (s : SceneRecord) (pictures : Pictures) (e : Expr) (p : Point) (u : Channels) → value_of s pictures e p ≡ u → is_clear e ≡ true → u ≡ clear
unfolding value_of
value-clear s pictures e p u is same = sym is ∙ ap (λ x. value_of s pictures x p) (is_clear_true e same)

pub value-pair_of :
    (s : SceneRecord) (pictures : Pictures) (op : Op) (a b : Expr) (p : Point) (u d : Channels)
    → value_of s pictures a p ≡ u → value_of s pictures b p ≡ d → IsPixel u → IsPixel d
    → value_of s pictures (pair_of op a b) p ≡ apply_of op u d
unfolding value_of
value-pair_of s pictures op a b p u d first second upper lower =
    stays (is_clear a) (is_clear b)
    (value-clear s pictures a p u first) (value-clear s pictures b p d second)
  where
    stays : (x y : Bool) → (x ≡ true → u ≡ clear) → (y ≡ true → d ≡ clear)
        → value_of s pictures (pair_staying (staying op x y) op a b) p ≡ apply_of op u d
    stays true y u_clear d_clear =
        clear_first_vanishes s pictures op a b p d lower second ∙ ap (λ c. apply_of op c d) (sym (u_clear refl))
    stays false true u_clear d_clear =
        clear_second_vanishes s pictures op a b p u upper first ∙ ap (λ c. apply_of op u c) (sym (d_clear refl))
    stays false false u_clear d_clear = ap₂ (apply_of op) first second

pub value-blur_of :
    (s : SceneRecord) (pictures : Pictures) (n : ℕ) (a : Expr) (p : Point)
    → value_of s pictures (blur_of n a) p ≡ blurred n (value_of s pictures a) p
unfolding value_of
value-blur_of s pictures n Clear p = sym (blurred-clear n p)
value-blur_of s pictures n (Leaf d at) p = refl
value-blur_of s pictures n (Tinted d at tint) p = refl
value-blur_of s pictures n (Card pixel) p = refl
value-blur_of s pictures n (Pair op a b) p = refl
value-blur_of s pictures n (Blur m a) p = refl

pub value-card_of :
    (s : SceneRecord) (pictures : Pictures) (pixel : Channels) (p : Point)
    → value_of s pictures (card_of pixel) p ≡ pixel
unfolding value_of
value-card_of s pictures pixel p =
    cond_both (is_clear_pixel pixel) Clear (Card pixel) (λ e. value_of s pictures e p ≡ pixel)
    (λ passes. sym (same_pixel_true pixel clear passes)) (λ fails. refl)

pub value-leaf_by :
    (s : SceneRecord) (pictures : Pictures) (d row : ℕ) (f : Dropped) (at p : Point)
    → value_of s pictures (leaf_by (colours_of s d) d row f at) p
    ≡ drawing_pixel (pictures d) (colouring_at s d row f) (minus p at)
unfolding value_of
value-leaf_by s pictures d row f at p = by_colours (colours_of s d) refl
  where
    by_colours : (c : Option ColoursRecord) → colours_of s d ≡ c
        → value_of s pictures (leaf_by c d row f at) p
        ≡ drawing_pixel (pictures d) (option_map (λ c. style_at c row f) c) (minus p at)
    by_colours None is = ap (λ c. drawing_pixel (pictures d) (option_map as_written c) (minus p at)) is
    by_colours (Some c) is =
        cond_both (is_as_written c row f)
        (Leaf d at) (Tinted d at (tint_at c row f)) (λ e. value_of s pictures e p ≡ drawing_pixel (pictures d) (Some (style_at c row f)) (minus p at))
        (λ passes.
        ap (λ c. drawing_pixel (pictures d) (option_map as_written c) (minus p at)) is
        ∙ ap (λ g. drawing_pixel (pictures d) (Some g) (minus p at)) (as_written-is_as_written c row f passes))
        (λ fails. ap (λ g. drawing_pixel (pictures d) (Some g) (minus p at)) (tint_style-tint_at c row f))
