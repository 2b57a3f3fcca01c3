-- The images of expressions over coloured pictures
use Rattle.std.specs.Prelude.{ℕ, List, flat_map}
use Rattle.xs_pixel.specs.Channels.{clear}
use Rattle.xs_pixel.specs.Images.{Image, blurred}
use Rattle.xs_pixel.specs.Operations.{apply_of}
use Rattle.xs_pixel.specs.Picture.{Pictures}
use Rattle.xs_pixel.specs.Points.{minus}
use Rattle.xs_meaning.specs.Expressions.{Expr, Clear, Leaf, Tinted, Card, Pair, Blur, drawings_of}
use Rattle.xs_plan.specs.Values.{plain_pixel, tinted_pixel}

-- the pixel of an expression at a point, where plain drawings have the coloured pixels of their pictures
unfoldable pub image_of : Pictures → Expr → Image
image_of pictures Clear p = clear
image_of pictures (Leaf d at) p = plain_pixel (pictures d) (minus p at)
image_of pictures (Tinted d at tint) p = tinted_pixel (pictures d) tint (minus p at)
image_of pictures (Card pixel) p = pixel
image_of pictures (Pair op a b) p = apply_of op (image_of pictures a p) (image_of pictures b p)
image_of pictures (Blur n a) p = blurred n (image_of pictures a) p

-- the drawings of the roots of rows, as a walk over them meets them
abbrev pub drawings_in : List Expr → List ℕ
drawings_in roots = flat_map drawings_of roots
