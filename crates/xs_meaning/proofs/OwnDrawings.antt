-- The value of an expression depends on the pictures of its own drawings alone
use Rattle.std.proofs.Common.{ℕ, ◌≡◌, refl, sym, ap, ap₂, ◌∙◌, [], ◌∷◌, Some, Contains, arith}
use Rattle.std.proofs.lemmas.List.Elements.{Contains-append_left, Contains-append_right}
use mathlib.Core.Path.{fun_ext}
use Rattle.xs_pixel.specs.Operations.{apply_of}
use Rattle.xs_scene.specs.Records.{SceneRecord}
use Rattle.xs_meaning.specs.Agreement.{AgreeOn}
use Rattle.xs_pixel.specs.Picture.{Pictures}
use Rattle.xs_meaning.specs.Drawings.{drawing_pixel, written_colouring}
use Rattle.xs_meaning.specs.Expressions.{Expr, Clear, Leaf, Tinted, Card, Pair, Blur, drawings_of, value_of, root_of}
use Rattle.xs_scene.specs.InRange.{IsInRange}
use Rattle.xs_pixel.specs.Picture.{ArePixels}
use Rattle.xs_meaning.specs.Palettes.{tint_style}
use Rattle.xs_pixel.specs.Points.{Point, minus}
use Rattle.xs_pixel.specs.Images.{blurred}
use Rattle.xs_meaning.specs.RowValues.{frame_pixel}
use Rattle.xs_meaning.proofs.SameValue.{value-root_of}

first_drawing : (d : ℕ) → Contains (d ∷ []) d
first_drawing d = (0, omega arith, refl)

value-own_drawings :
    (s : SceneRecord) (pictures others : Pictures) (e : Expr) → AgreeOn pictures others (drawings_of e)
    → (p : Point) → value_of s pictures e p ≡ value_of s others e p
unfolding value_of
value-own_drawings s pictures others Clear agree p = refl
value-own_drawings s pictures others (Leaf d at) agree p =
    ap (λ picture. drawing_pixel picture (written_colouring s d) (minus p at)) (agree d (first_drawing d))
value-own_drawings s pictures others (Tinted d at tint) agree p =
    ap (λ picture. drawing_pixel picture (Some (tint_style tint)) (minus p at)) (agree d (first_drawing d))
value-own_drawings s pictures others (Card pixel) agree p = refl
value-own_drawings s pictures others (Pair op a b) agree p =
    ap₂ (apply_of op)
    (value-own_drawings s pictures others a
    (λ d among. agree d (Contains-append_left (drawings_of a) (drawings_of b) d among)) p)
    (value-own_drawings s pictures others b
    (λ d among. agree d (Contains-append_right (drawings_of a) (drawings_of b) d among)) p)
value-own_drawings s pictures others (Blur n a) agree p =
    ap (λ image. blurred n image p) (fun_ext (value-own_drawings s pictures others a agree))

-- a drawing that a row shows outside its expression changes no pixel of the frame
pub frame_pixel-own_drawings :
    (s : SceneRecord) (pictures others : Pictures) → IsInRange s → ArePixels pictures → ArePixels others
    → (row : ℕ) → AgreeOn pictures others (drawings_of (root_of s row))
    → (p : Point) → frame_pixel s pictures row p ≡ frame_pixel s others row p
frame_pixel-own_drawings s pictures others range pixels other_pixels row agree p =
    sym (value-root_of s pictures range pixels row p)
    ∙ value-own_drawings s pictures others (root_of s row) agree p
    ∙ value-root_of s others range other_pixels row p
