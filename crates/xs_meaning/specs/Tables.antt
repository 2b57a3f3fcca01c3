use Rattle.std.specs.Prelude.{◌≡◌, ℕ, ◌-◌, Some, None, List, [], ◌∷◌, map, fold, slice_get}
use Rattle.xs_pixel.specs.Channels.{Channels, clear}
use Rattle.xs_pixel.specs.Operations.{apply_of, over_of}
use Rattle.xs_pixel.specs.declared.operation.Op.{Op}
use Rattle.xs_pixel.specs.declared.style.Style.{Style}
use Rattle.xs_scene.specs.declared.seen.Seen.{Seen}
use Rattle.xs_scene.specs.declared.seen.Seen.TheVariants.{Empty, Drawing, Row}
use Rattle.xs_scene.specs.declared.node.Ref.{Ref}
use Rattle.xs_scene.specs.declared.node.Ref.TheVariants.{Column as ToColumn, Node as ToNode}
use Rattle.xs_scene.specs.declared.node.Node.{Node}
use Rattle.xs_scene.specs.declared.node.Node.TheVariants.{Pair, Card, Shuffle, Blur, Keep, Delete}
use Rattle.xs_scene.specs.Records.{SceneRecord}
use Rattle.xs_meaning.specs.Cells.{cell_at}
use Rattle.xs_pixel.specs.Picture.{Pictures}
use Rattle.xs_meaning.specs.Drawings.{number_of, drawing_pixel, colouring_at}
use Rattle.xs_meaning.specs.Palettes.{Dropped, keeping, deleting, pixel_of}
use Rattle.xs_meaning.specs.Places.{place_of}
use Rattle.xs_pixel.specs.Points.{Point, minus}
use Rattle.xs_pixel.specs.Images.{Image, blurred}
use Rattle.xs_meaning.specs.RowValues.{row_under, value_under}
use Rattle.xs_meaning.specs.Walk.{sheet_at, column_at, terminals_of}

-- what a column of a sheet sees at a row, and which node a sheet has by a number
abbrev pub Sees : SceneRecord → ℕ → ℕ → ℕ → Seen → Type 0
Sees s k c row seen = cell_at (column_at (sheet_at s.sheets k) c) row ≡ seen

abbrev pub HasNode : SceneRecord → ℕ → ℕ → Node → Type 0
HasNode s k n node = slice_get (sheet_at s.sheets k).nodes n ≡ Some node

abbrev pub place_at : SceneRecord → ℕ → ℕ → ℕ → Point
place_at s k c row = place_of (sheet_at s.sheets k) (column_at (sheet_at s.sheets k) c).peg row

abbrev pub column_value : SceneRecord → Pictures → ℕ → ℕ → ℕ → Dropped → Image
column_value s pictures k c row f p = value_under s pictures k (ToColumn c) row f p

abbrev pub node_value : SceneRecord → Pictures → ℕ → ℕ → ℕ → Dropped → Image
node_value s pictures k n row f p = value_under s pictures k (ToNode n) row f p

-- the value of a column: the pixel of what it sees, at the point less its place
pub record ColumnsFollow (s : SceneRecord) (pictures : Pictures) : Type 0 where
  pub empty :
      (k c row : ℕ) (f : Dropped) (p : Point) → Sees s k c row Empty → column_value s pictures k c row f p ≡ clear
  pub drawing :
      (k c row : ℕ) (f : Dropped) (p : Point) (level index : ℕ) → Sees s k c row (Drawing level index)
      → let d = number_of s.levels level index in
      column_value s pictures k c row f p
      ≡ drawing_pixel (pictures d) (colouring_at s d row f) (minus p (place_at s k c row))
  pub row :
      (k c row : ℕ) (f : Dropped) (p : Point) (sheet inner : ℕ) → Sees s k c row (Row sheet inner)
      → column_value s pictures k c row f p ≡ row_under s pictures sheet inner f (minus p (place_at s k c row))

-- the value of a node
pub record NodesFollow (s : SceneRecord) (pictures : Pictures) : Type 0 where
  pub pair :
      (k n row : ℕ) (f : Dropped) (p : Point) (op : Op) (first second : Ref) → HasNode s k n (Pair op first second)
      → node_value s pictures k n row f p
      ≡ apply_of op (value_under s pictures k first row f p) (value_under s pictures k second row f p)
  pub card :
      (k n row : ℕ) (f : Dropped) (p : Point) (style : Style) → HasNode s k n (Card style)
      → node_value s pictures k n row f p ≡ pixel_of style
  pub shuffle :
      (k n row : ℕ) (f : Dropped) (p : Point) (input : Ref) (list : List ℕ) (listed : ℕ)
      → HasNode s k n (Shuffle input list) → slice_get list (row - 1) ≡ Some listed
      → node_value s pictures k n row f p ≡ value_under s pictures k input listed f p
  pub past_the_list :
      (k n row : ℕ) (f : Dropped) (p : Point) (input : Ref) (list : List ℕ)
      → HasNode s k n (Shuffle input list) → slice_get list (row - 1) ≡ None
      → node_value s pictures k n row f p ≡ clear
  pub blur :
      (k n row : ℕ) (f : Dropped) (p : Point) (input : Ref) (radius : ℕ) → HasNode s k n (Blur input radius)
      → node_value s pictures k n row f p ≡ blurred radius (value_under s pictures k input row f) p
  pub keep :
      (k n row : ℕ) (f : Dropped) (p : Point) (input : Ref) (styles : List ℕ) → HasNode s k n (Keep input styles)
      → node_value s pictures k n row f p ≡ value_under s pictures k input row (keeping styles f) p
  pub delete :
      (k n row : ℕ) (f : Dropped) (p : Point) (input : Ref) (styles : List ℕ) → HasNode s k n (Delete input styles)
      → node_value s pictures k n row f p ≡ value_under s pictures k input row (deleting styles f) p

-- pixels laid over one another from the bottom up
abbrev pub stacked : List Channels → Channels
stacked [] = clear
stacked (bottom ∷ pixels) = fold (λ was pixel. over_of pixel was) bottom pixels

-- the value of a row: those of its terminals, laid over one another
abbrev pub RowsFollow : SceneRecord → Pictures → Type 0
RowsFollow s pictures =
    (k row : ℕ) (f : Dropped) (p : Point)
    → row_under s pictures k row f p
    ≡ stacked (map (λ t. value_under s pictures k t row f p) (terminals_of (sheet_at s.sheets k)))
