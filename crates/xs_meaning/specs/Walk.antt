use Rattle.std.specs.Prelude.{ℕ, zero, suc, ◌-◌, false, not, Option, Some, None, List, [], ◌∷◌, map, filter, length, slice_get, slice_index_or}
use Rattle.xs_base.specs.declared.limits.TheConstants.{DEEPEST_NEST}
use Rattle.std.specs.List.{enumerate_from}
use Rattle.xs_pixel.specs.declared.operation.Op.{Op}
use Rattle.xs_pixel.specs.declared.operation.Op.TheVariants.{Over}
use Rattle.xs_pixel.specs.declared.style.Style.{Style}
use Rattle.xs_scene.specs.declared.seen.Seen.{Seen}
use Rattle.xs_scene.specs.declared.seen.Seen.TheVariants.{Empty, Drawing, Row}
use Rattle.xs_scene.specs.declared.node.Ref.{Ref}
use Rattle.xs_scene.specs.declared.node.Ref.TheVariants.{Column as ToColumn, Node as ToNode}
use Rattle.xs_scene.specs.declared.node.Node.{Node}
use Rattle.xs_scene.specs.declared.node.Node.TheVariants.{Pair, Card, Shuffle, Blur, Keep, Delete}
use Rattle.xs_scene.specs.Records.{SheetRecord, ColumnRecord}
use Rattle.xs_meaning.specs.Cells.{cell_at}
use Rattle.xs_meaning.specs.Palettes.{Dropped, keeping, deleting}
use Rattle.xs_meaning.specs.Places.{place_of}
use Rattle.xs_pixel.specs.Points.{Point}

-- what the walk through a scene is read as: an answer for each thing that it meets. A drawing has its
-- level and index, the row of the sheet in which it stands, and the styles dropped on the way to it
pub record Interpretation (A : Type 0) : Type 0 where
  pub nothing : A
  pub drawing : ℕ → ℕ → ℕ → Dropped → A
  pub moved : Point → A → A
  pub card : Style → A
  pub pair : Op → A → A → A
  pub blur : ℕ → A → A

-- the answers for the rows of sheets, by sheet, row and dropped styles
abbrev pub RowAnswers : Type 0 → Type 0
RowAnswers A = ℕ → ℕ → Dropped → A

-- the answers for the columns and nodes of a sheet, by row and dropped styles
abbrev pub InputAnswers : Type 0 → Type 0
InputAnswers A = Ref → ℕ → Dropped → A

abbrev pub no_sheet : SheetRecord
no_sheet = record { pegs = []; columns = []; nodes = []; out = Some [] }

abbrev pub sheet_at : List SheetRecord → ℕ → SheetRecord
sheet_at sheets k = slice_index_or sheets k no_sheet

abbrev pub no_column : ColumnRecord
no_column = record { peg = None; off = false; cells = [] }

abbrev pub column_at : SheetRecord → ℕ → ColumnRecord
column_at k c = slice_index_or k.columns c no_column

-- the terminals of a sheet, bottom to top: its `out`, or else every column that is not off
abbrev pub terminals_by : Option (List Ref) → List ColumnRecord → List Ref
terminals_by (Some out) columns = out
terminals_by None columns =
    map (λ e. ToColumn e.0) (filter (λ e. not e.1.off) (enumerate_from 0 columns))

unfoldable pub terminals_of : SheetRecord → List Ref
terminals_of k = terminals_by k.out k.columns

-- what a column sees
abbrev pub seen_by : {A : Type 0} → Interpretation A → RowAnswers A → Seen → ℕ → Dropped → A
seen_by R rows Empty row f = R.nothing
seen_by R rows (Drawing level index) row f = R.drawing level index row f
seen_by R rows (Row sheet inner) row f = rows sheet inner f

-- a column: what it sees, moved by the place of its peg
abbrev pub column_by : {A : Type 0} → Interpretation A → RowAnswers A → SheetRecord → ℕ → ℕ → Dropped → A
column_by R rows k c row f =
    R.moved (place_of k (column_at k c).peg row) (seen_by R rows (cell_at (column_at k c) row) row f)

-- a shuffle's input at the listed row, and nothing past the list
abbrev pub listed_by : {A : Type 0} → Interpretation A → (ℕ → Dropped → A) → Option ℕ → Dropped → A
listed_by R input None f = R.nothing
listed_by R input (Some row) f = input row f

-- a node over the answers for its inputs
abbrev pub node_by : {A : Type 0} → Interpretation A → InputAnswers A → Option Node → ℕ → Dropped → A
node_by R val None row f = R.nothing
node_by R val (Some (Pair op first second)) row f = R.pair op (val first row f) (val second row f)
node_by R val (Some (Card style)) row f = R.card style
node_by R val (Some (Shuffle input list)) row f = listed_by R (val input) (slice_get list (row - 1)) f
node_by R val (Some (Blur input radius)) row f = R.blur radius (val input row f)
node_by R val (Some (Keep input styles)) row f = val input row (keeping styles f)
node_by R val (Some (Delete input styles)) row f = val input row (deleting styles f)

-- a column or node of a sheet, through at most so many of its columns and nodes
unfoldable pub walk : {A : Type 0} → Interpretation A → RowAnswers A → SheetRecord → ℕ → InputAnswers A
walk R rows k zero n row f = R.nothing
walk R rows k (suc m) (ToColumn c) row f = column_by R rows k c row f
walk R rows k (suc m) (ToNode n) row f = node_by R (walk R rows k m) (slice_get k.nodes n) row f

-- no walk through a sheet without a cycle is longer
abbrev pub depth_of : SheetRecord → ℕ
depth_of k = suc (length k.nodes)

-- each terminal over what there was below it
abbrev pub above_by : {A : Type 0} → Interpretation A → A → List A → A
above_by R was [] = was
above_by R was (t ∷ ts) = above_by R (R.pair Over t was) ts

abbrev pub composed_by : {A : Type 0} → Interpretation A → List A → A
composed_by R [] = R.nothing
composed_by R (t ∷ ts) = above_by R t ts

-- a row of a sheet, over the answers for its columns and nodes
abbrev pub row_by : {A : Type 0} → Interpretation A → InputAnswers A → SheetRecord → ℕ → Dropped → A
row_by R val k row f = composed_by R (map (λ t. val t row f) (terminals_of k))

-- a row of a sheet, through at most so many nested sheets
unfoldable pub row_walk : {A : Type 0} → Interpretation A → List SheetRecord → ℕ → RowAnswers A
row_walk R sheets zero k row f = R.nothing
row_walk R sheets (suc d) k row f =
    row_by R (walk R (row_walk R sheets d) (sheet_at sheets k) (depth_of (sheet_at sheets k)))
    (sheet_at sheets k) row f

-- a row of a sheet: sheets are nested no deeper than `DEEPEST_NEST`
abbrev pub whole_row : {A : Type 0} → Interpretation A → List SheetRecord → RowAnswers A
whole_row R sheets = row_walk R sheets DEEPEST_NEST

-- a column or node of a sheet
abbrev pub whole_input : {A : Type 0} → Interpretation A → List SheetRecord → ℕ → InputAnswers A
whole_input R sheets k =
    walk R (whole_row R sheets) (sheet_at sheets k) (depth_of (sheet_at sheets k))
