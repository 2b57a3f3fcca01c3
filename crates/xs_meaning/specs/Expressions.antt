use Rattle.std.specs.Prelude.{ℕ, ◌+◌, max, Bool, true, false, Option, Some, None, List, [], ◌∷◌, ◌++◌, flat_map, if◌then◌else◌}
use Rattle.xs_pixel.specs.Channels.{Channels, clear}
use Rattle.xs_pixel.specs.Operations.{apply_of}
use Rattle.xs_pixel.specs.declared.operation.Op.{Op}
use Rattle.xs_pixel.specs.declared.operation.Op.TheVariants.{Over, Add, Sub, Mult, Min, Max, MatteIn, MatteOut}
use Rattle.xs_scene.specs.declared.node.Ref.{Ref}
use Rattle.xs_scene.specs.Records.{SceneRecord, ColoursRecord}
use Rattle.xs_pixel.specs.Picture.{Pictures}
use Rattle.xs_meaning.specs.Drawings.{number_of, colours_of, drawing_pixel, written_colouring}
use Rattle.xs_meaning.specs.Palettes.{Dropped, none_dropped, pixel_of, tint_at, tint_style, is_as_written, is_clear_pixel}
use Rattle.xs_pixel.specs.Points.{Point, plus, minus, opposite}
use Rattle.xs_pixel.specs.Images.{Image, blurred}
use Rattle.xs_meaning.specs.RowValues.{camera_at}
use Rattle.xs_meaning.specs.Walk.{Interpretation, whole_row, whole_input}

-- what a row is composed of, with offsets carried down to the drawings: nothing; a drawing at an
-- offset, as its palette is written or under a tint; one pixel everywhere; two expressions joined by
-- an operation; one blurred by a radius
pub data Expr : Type 0 where
  Clear : Expr
  Leaf : (drawing : ℕ) (offset : Point) → Expr
  Tinted : (drawing : ℕ) (offset : Point) (tint : List Channels) → Expr
  Card : (pixel : Channels) → Expr
  Pair : (op : Op) (first second : Expr) → Expr
  Blur : (radius : ℕ) (input : Expr) → Expr

abbrev pub is_clear : Expr → Bool
is_clear Clear = true
is_clear _ = false

-- which inputs of a pair stay where one of them is clear
pub data Staying : Type 0 where
  Both : Staying
  First : Staying
  Second : Staying
  Neither : Staying

abbrev pub with_clear_first : Op → Staying
with_clear_first Over = Second
with_clear_first Add = Second
with_clear_first Sub = Second
with_clear_first Mult = Neither
with_clear_first Min = Neither
with_clear_first Max = Second
with_clear_first MatteIn = Neither
with_clear_first MatteOut = Neither

abbrev pub with_clear_second : Op → Staying
with_clear_second Over = First
with_clear_second Add = First
with_clear_second Sub = Neither
with_clear_second Mult = Neither
with_clear_second Min = Neither
with_clear_second Max = First
with_clear_second MatteIn = Neither
with_clear_second MatteOut = First

abbrev pub staying : Op → (first second : Bool) → Staying
staying op true second = with_clear_first op
staying op false true = with_clear_second op
staying op false false = Both

abbrev pub pair_staying : Staying → Op → Expr → Expr → Expr
pair_staying Both op a b = Pair op a b
pair_staying First op a b = a
pair_staying Second op a b = b
pair_staying Neither op a b = Clear

-- a pair from which clear inputs have vanished
abbrev pub pair_of : Op → Expr → Expr → Expr
pair_of op a b = pair_staying (staying op (is_clear a) (is_clear b)) op a b

-- a blur of a clear input is clear
abbrev pub blur_of : ℕ → Expr → Expr
blur_of n Clear = Clear
blur_of n a = Blur n a

-- a card whose pixel is clear is clear
abbrev pub card_of : Channels → Expr
card_of pixel = if is_clear_pixel pixel then Clear else Card pixel

-- a drawing with these colours at a row under dropped styles: a plain leaf where it is a colour
-- drawing or every style has its written pixel, else a tinted one
abbrev pub leaf_by : Option ColoursRecord → ℕ → ℕ → Dropped → Point → Expr
leaf_by None d row f at = Leaf d at
leaf_by (Some c) d row f at = if is_as_written c row f then Leaf d at else Tinted d at (tint_at c row f)

-- the scene as expressions, by the offset under which they stand
unfoldable pub by_offsets : SceneRecord → Interpretation (Point → Expr)
by_offsets s =
    record {
      nothing = λ o. Clear;
      drawing =
          λ level index row f o.
          let d = number_of s.levels level index in
          leaf_by (colours_of s d) d row f o;
      moved = λ q e o. e (plus o q);
      card = λ style o. card_of (pixel_of style);
      pair = λ op a b o. pair_of op (a o) (b o);
      blur = λ n a o. blur_of n (a o);
    }

-- the expression of a row of a sheet, and of a column or node, under dropped styles and an offset
abbrev pub row_expr : SceneRecord → ℕ → ℕ → Dropped → Point → Expr
row_expr s k row f o = whole_row (by_offsets s) s.sheets k row f o

abbrev pub input_expr : SceneRecord → ℕ → Ref → ℕ → Dropped → Point → Expr
input_expr s k n row f o = whole_input (by_offsets s) s.sheets k n row f o

-- the root of a row: that of sheet 0, moved against the camera
abbrev pub root_of : SceneRecord → ℕ → Expr
root_of s row = row_expr s 0 row none_dropped (opposite (camera_at s row))

-- how far beyond a point an expression looks
abbrev pub reach_of : Expr → ℕ
reach_of Clear = 0
reach_of (Leaf d at) = 0
reach_of (Tinted d at tint) = 0
reach_of (Card pixel) = 0
reach_of (Pair op a b) = max (reach_of a) (reach_of b)
reach_of (Blur n a) = n + reach_of a

-- the drawings of an expression in the order of the walk: the first input before the second
abbrev pub drawings_of : Expr → List ℕ
drawings_of Clear = []
drawings_of (Leaf d at) = d ∷ []
drawings_of (Tinted d at tint) = d ∷ []
drawings_of (Card pixel) = []
drawings_of (Pair op a b) = drawings_of a ++ drawings_of b
drawings_of (Blur n a) = drawings_of a

-- the drawings that the expressions of rows have, as a walk over them meets them
abbrev pub needed : SceneRecord → List ℕ → List ℕ
needed s rows = flat_map (λ row. drawings_of (root_of s row)) rows

-- the pixel of an expression at a point
unfoldable pub value_of : SceneRecord → Pictures → Expr → Image
value_of s pictures Clear p = clear
value_of s pictures (Leaf d at) p = drawing_pixel (pictures d) (written_colouring s d) (minus p at)
value_of s pictures (Tinted d at tint) p = drawing_pixel (pictures d) (Some (tint_style tint)) (minus p at)
value_of s pictures (Card pixel) p = pixel
value_of s pictures (Pair op a b) p = apply_of op (value_of s pictures a p) (value_of s pictures b p)
value_of s pictures (Blur n a) p = blurred n (value_of s pictures a) p
