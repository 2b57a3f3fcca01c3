-- The value of an expression is the value of what it was made from, moved by the offset
use Rattle.std.proofs.Common.{ℕ, ◌≡◌, refl, ap, ap₂, ◌∙◌, subst, IfSome, arith}
use Rattle.std.proofs.lemmas.Int.{ints}
use mathlib.Core.Path.{fun_ext}
use Rattle.xs_pixel.specs.Channels.{IsPixel}
use Rattle.xs_pixel.proofs.StaysPixel.{IsPixel-apply_of}
use Rattle.xs_scene.specs.declared.node.Ref.{Ref}
use Rattle.xs_scene.specs.Records.{SceneRecord}
use Rattle.xs_pixel.specs.Picture.{Pictures}
use Rattle.xs_meaning.specs.Drawings.{number_of}
use Rattle.xs_meaning.specs.Expressions.{Expr, by_offsets, blur_of, row_expr, input_expr, root_of, value_of}
use Rattle.xs_scene.specs.InRange.{IsStyle, HasCardInRange, IsInRange}
use Rattle.xs_pixel.specs.Picture.{ArePixels}
use Rattle.xs_meaning.specs.Palettes.{Dropped, none_dropped, pixel_of, keeping, deleting}
use Rattle.xs_pixel.specs.Points.{Point, point, plus, minus, opposite}
use Rattle.xs_pixel.specs.Images.{Image, blurred}
use Rattle.xs_meaning.specs.RowValues.{by_points, row_under, row_of, value_under, camera_at}
use Rattle.xs_meaning.specs.Walk.{sheet_at}
use Rattle.xs_meaning.proofs.Agree.{Agrees, Meets, whole_row-agrees, whole_input-agrees}
use Rattle.xs_meaning.proofs.Blurs.{blurred-moved, IsPixel-blurred}
use Rattle.xs_meaning.proofs.DrawingPixels.{IsPixel-clear, IsPixel-pixel_of, IsPixel-drawing_at}
use Rattle.xs_meaning.proofs.Lists.{All-slice_get}
use Rattle.xs_meaning.proofs.SheetRanges.{sheet_at-in_range}
use Rattle.xs_meaning.proofs.Vanishing.{value-pair_of, value-blur_of, value-card_of, value-leaf_by}

-- an image and an expression by offset have the same value, which is a pixel
record SameValue (s : SceneRecord) (pictures : Pictures) (image : Image) (e : Point → Expr) : Type 0 where
  same : (o p : Point) → value_of s pictures (e o) p ≡ image (minus p o)
  pixel : (p : Point) → IsPixel (image p)

minus-plus : (p o q : Point) → minus p (plus o q) ≡ minus (minus p o) q
minus-plus p o q = ap₂ point (omega (arith, ints)) (omega (arith, ints))

moved-same :
    (s : SceneRecord) (pictures : Pictures) (q : Point) (image : Image) (e : Point → Expr)
    → SameValue s pictures image e → SameValue s pictures (λ p. image (minus p q)) (λ o. e (plus o q))
moved-same s pictures q image e at =
    record {
      same = λ o p. at.same (plus o q) p ∙ ap image (minus-plus p o q);
      pixel = λ p. at.pixel (minus p q);
    }

blur-same :
    (s : SceneRecord) (pictures : Pictures) (n : ℕ) (image : Image) (e : Point → Expr)
    → SameValue s pictures image e → SameValue s pictures (λ p. blurred n image p) (λ o. blur_of n (e o))
blur-same s pictures n image e at =
    record {
      same =
          λ o p.
          value-blur_of s pictures n (e o) p
          ∙ ap (λ v. blurred n v p) (fun_ext (at.same o))
          ∙ blurred-moved n image o p;
      pixel = IsPixel-blurred n image at.pixel;
    }

agrees :
    (s : SceneRecord) (pictures : Pictures) → IsInRange s → ArePixels pictures
    → Agrees (by_points s pictures) (by_offsets s) (λ d image e. SameValue s pictures image e)
    (λ f g. f ≡ g) IsStyle (λ q. Unit {0})
unfolding by_points by_offsets value_of
agrees s pictures range pixels =
    record {
      nothing = λ d. record { same = λ o p. refl; pixel = λ p. IsPixel-clear };
      drawing =
          λ d level index row f g same.
          subst
          (λ g.
          SameValue s pictures ((by_points s pictures).drawing level index row f)
          ((by_offsets s).drawing level index row g))
          same
          (record {
            same = λ o p. value-leaf_by s pictures (number_of s.levels level index) row f o p;
            pixel = λ p. IsPixel-drawing_at s pictures range pixels (number_of s.levels level index) row f p;
          });
      moved = λ d q image e place at. moved-same s pictures q image e at;
      card =
          λ d style bytes.
          record {
            same = λ o p. value-card_of s pictures (pixel_of style) p;
            pixel = λ p. IsPixel-pixel_of style bytes;
          };
      pair =
          λ d op u v a b first second.
          record {
            same =
                λ o p.
                value-pair_of s pictures op (a o) (b o) p (u (minus p o)) (v (minus p o))
                (first.same o p) (second.same o p) (first.pixel (minus p o)) (second.pixel (minus p o));
            pixel = λ p. IsPixel-apply_of op (u p) (v p) (first.pixel p) (second.pixel p);
          };
      blur = λ d n image e at. blur-same s pictures n image e at;
      keep = λ styles f g same. ap (keeping styles) same;
      delete = λ styles f g same. ap (deleting styles) same;
    }

meets-in_range : (s : SceneRecord) → IsInRange s → (k : ℕ) → Meets IsStyle (λ q. Unit {0}) (sheet_at s.sheets k)
meets-in_range s range k =
    record {
      cards =
          λ n style is. subst (λ node. IfSome node HasCardInRange) is
          (All-slice_get HasCardInRange (sheet_at s.sheets k).nodes n (sheet_at-in_range s range k).cards);
      places = λ c row. tt;
    }

-- at each row of each sheet, under dropped styles
same-row :
    (s : SceneRecord) (pictures : Pictures) → IsInRange s → ArePixels pictures
    → (k row : ℕ) (f : Dropped) → SameValue s pictures (row_under s pictures k row f) (row_expr s k row f)
same-row s pictures range pixels k row f =
    whole_row-agrees (by_points s pictures) (by_offsets s) (λ d image e. SameValue s pictures image e)
    (λ f g. f ≡ g) IsStyle (λ q. Unit {0}) (agrees s pictures range pixels) s.sheets (meets-in_range s range) k row f f refl

pub value-row_expr :
    (s : SceneRecord) (pictures : Pictures) → IsInRange s → ArePixels pictures
    → (k row : ℕ) (f : Dropped) (o p : Point)
    → value_of s pictures (row_expr s k row f o) p ≡ row_under s pictures k row f (minus p o)
value-row_expr s pictures range pixels k row f = (same-row s pictures range pixels k row f).same

-- at each column and node of each sheet
pub value-input_expr :
    (s : SceneRecord) (pictures : Pictures) → IsInRange s → ArePixels pictures
    → (k : ℕ) (n : Ref) (row : ℕ) (f : Dropped) (o p : Point)
    → value_of s pictures (input_expr s k n row f o) p ≡ value_under s pictures k n row f (minus p o)
value-input_expr s pictures range pixels k n row f =
    (whole_input-agrees (by_points s pictures) (by_offsets s) (λ d image e. SameValue s pictures image e)
    (λ f g. f ≡ g) IsStyle (λ q. Unit {0}) (agrees s pictures range pixels) s.sheets (meets-in_range s range) k n row f f refl).same

minus-opposite : (p c : Point) → minus p (opposite c) ≡ plus p c
minus-opposite p c = ap₂ point (omega (arith, ints)) (omega (arith, ints))

-- the root of a row has the pixels of the row at the points moved by the camera
pub value-root_of :
    (s : SceneRecord) (pictures : Pictures) → IsInRange s → ArePixels pictures
    → (row : ℕ) (p : Point)
    → value_of s pictures (root_of s row) p ≡ row_of s pictures 0 row (plus p (camera_at s row))
value-root_of s pictures range pixels row p =
    value-row_expr s pictures range pixels 0 row none_dropped (opposite (camera_at s row)) p
    ∙ ap (row_of s pictures 0 row) (minus-opposite p (camera_at s row))

-- each pixel of a row is a pixel
pub IsPixel-row_under :
    (s : SceneRecord) (pictures : Pictures) → IsInRange s → ArePixels pictures
    → (k row : ℕ) (f : Dropped) (p : Point) → IsPixel (row_under s pictures k row f p)
IsPixel-row_under s pictures range pixels k row f = (same-row s pictures range pixels k row f).pixel
