-- Pictures that are coloured as their palettes are written give expressions the pixels that these say
use Rattle.std.proofs.Common.{List, ◌≡◌, Option, Some, None, IfSome, refl, ap, ap₂}
use mathlib.Core.Path.{fun_ext}
use Rattle.xs_pixel.specs.Channels.{Channels, clear}
use Rattle.xs_pixel.specs.Images.{blurred}
use Rattle.xs_pixel.specs.Operations.{apply_of}
use Rattle.xs_pixel.specs.Picture.{Picture, Pictures, at_point}
use Rattle.xs_pixel.specs.Points.{Point, minus}
use Rattle.xs_scene.specs.Records.{SceneRecord}
use Rattle.xs_meaning.specs.Drawings.{drawing_pixel, seen_under, AreColouredAsWritten, written_colouring}
use Rattle.xs_meaning.specs.Expressions.{Expr, Clear, Leaf, Tinted, Card, Pair, Blur, value_of}
use Rattle.xs_meaning.specs.Palettes.{Colouring, tint_style}
use Rattle.xs_plan.specs.Values.{plain_pixel, tinted_pixel}
use Rattle.xs_demand.specs.Images.{image_of}

plain-is_drawing : (picture : Option Picture) (colouring : Option Colouring) (p : Point)
    → IfSome picture (λ q. q.coloured ≡ seen_under colouring q.content)
    → plain_pixel picture p ≡ drawing_pixel picture colouring p
unfolding plain_pixel drawing_pixel
plain-is_drawing None colouring p is = refl
plain-is_drawing (Some q) None p is = ap (λ items. at_point q items clear p.x p.y) is
plain-is_drawing (Some q) (Some colouring) p is = ap (λ items. at_point q items clear p.x p.y) is

tinted-is_drawing : (picture : Option Picture) (tint : List Channels) (p : Point)
    → tinted_pixel picture tint p ≡ drawing_pixel picture (Some (tint_style tint)) p
unfolding tinted_pixel drawing_pixel tint_style
tinted-is_drawing None tint p = refl
tinted-is_drawing (Some q) tint p = refl

-- by the expression: an image over written pictures is the value
pub image-is_value : (s : SceneRecord) (pictures : Pictures) → AreColouredAsWritten s pictures
    → (e : Expr) (q : Point) → image_of pictures e q ≡ value_of s pictures e q
unfolding image_of value_of
image-is_value s pictures are Clear q = refl
image-is_value s pictures are (Leaf d at) q = plain-is_drawing (pictures d) (written_colouring s d) (minus q at) (are d)
image-is_value s pictures are (Tinted d at tint) q = tinted-is_drawing (pictures d) tint (minus q at)
image-is_value s pictures are (Card pixel) q = refl
image-is_value s pictures are (Pair op a b) q =
    ap₂ (apply_of op) (image-is_value s pictures are a q) (image-is_value s pictures are b q)
image-is_value s pictures are (Blur n a) q = ap (λ image. blurred n image q) (fun_ext (image-is_value s pictures are a))
