-- What holds of all that a walk through a scene in range meets holds of each row
use Rattle.std.proofs.Common.{ℕ, zero, suc, ◌≤◌, Option, Some, None, IfSome, List, [], ◌∷◌, All, map, slice_get, ◌-◌, arith}
use Rattle.xs_base.specs.declared.limits.TheConstants.{GREATEST_RADIUS}
use Rattle.xs_pixel.specs.declared.operation.Op.{Op}
use Rattle.xs_pixel.specs.declared.operation.Op.TheVariants.{Over}
use Rattle.xs_pixel.specs.declared.style.Style.{Style}
use Rattle.xs_pixel.specs.Points.{Point}
use Rattle.xs_scene.specs.InRange.{IsInRange, SheetInRange}
use Rattle.xs_scene.specs.Ranges.{IsNode}
use Rattle.xs_scene.specs.Records.{SheetRecord, SceneRecord}
use Rattle.xs_scene.specs.declared.node.Node.{Node}
use Rattle.xs_scene.specs.declared.node.Node.TheVariants.{Pair, Card, Shuffle, Blur, Keep, Delete}
use Rattle.xs_scene.specs.declared.node.Ref.{Ref}
use Rattle.xs_scene.specs.declared.node.Ref.TheVariants.{Column as ToColumn, Node as ToNode}
use Rattle.xs_scene.specs.declared.seen.Seen.{Seen}
use Rattle.xs_scene.specs.declared.seen.Seen.TheVariants.{Empty, Drawing, Row}
use Rattle.xs_meaning.specs.Cells.{cell_at}
use Rattle.xs_meaning.specs.Palettes.{Dropped, keeping, deleting}
use Rattle.xs_meaning.specs.Places.{place_of}
use Rattle.xs_meaning.specs.Walk.{Interpretation, RowAnswers, InputAnswers, no_sheet, sheet_at, column_at, terminals_of, seen_by, listed_by, node_by, walk, depth_of, above_by, composed_by, row_walk, whole_row}
use Rattle.xs_meaning.proofs.Lists.{All-slice_get, All-slice_index_or}

-- each thing that is met keeps T, where the radii of blurs are in range
pub record Keeps {A : Type 0} (R : Interpretation A) (T : A → Type 0) : Type 0 where
  pub nothing : T R.nothing
  pub drawing : (level index row : ℕ) (f : Dropped) → T (R.drawing level index row f)
  pub moved : (q : Point) (a : A) → T a → T (R.moved q a)
  pub card : (style : Style) → T (R.card style)
  pub pair : (op : Op) (a b : A) → T a → T b → T (R.pair op a b)
  pub blur : (n : ℕ) (a : A) → 1 ≤ n → n ≤ GREATEST_RADIUS → T a → T (R.blur n a)

abbrev AreNodes : SheetRecord → Type 0
AreNodes k = All IsNode k.nodes

nodes-in_range : (s : SceneRecord) → IsInRange s → (k : ℕ) → AreNodes (sheet_at s.sheets k)
nodes-in_range s range k =
    All-slice_index_or AreNodes s.sheets k no_sheet (λ i d lt. absurd (omega arith))
    (λ i d lt. let sheet : SheetInRange _ = range.sheets i d lt in sheet.numbers.are_nodes)

module _ {A : Type 0} (R : Interpretation A) (T : A → Type 0) (keeps : Keeps R T) where
  seen-keeps :
      (rows : RowAnswers A) → ((j row : ℕ) (f : Dropped) → T (rows j row f))
      → (seen : Seen) (row : ℕ) (f : Dropped) → T (seen_by R rows seen row f)
  seen-keeps rows below Empty row f = keeps.nothing
  seen-keeps rows below (Drawing level index) row f = keeps.drawing level index row f
  seen-keeps rows below (Row sheet inner) row f = below sheet inner f

  listed-keeps :
      (input : ℕ → Dropped → A) → ((row : ℕ) (f : Dropped) → T (input row f))
      → (row : Option ℕ) (f : Dropped) → T (listed_by R input row f)
  listed-keeps input below None f = keeps.nothing
  listed-keeps input below (Some row) f = below row f

  node-keeps :
      (val : InputAnswers A) → ((t : Ref) (row : ℕ) (f : Dropped) → T (val t row f))
      → (node : Option Node) → IfSome node IsNode → (row : ℕ) (f : Dropped) → T (node_by R val node row f)
  node-keeps val below None is row f = keeps.nothing
  node-keeps val below (Some (Pair op first second)) is row f =
      keeps.pair op (val first row f) (val second row f) (below first row f) (below second row f)
  node-keeps val below (Some (Card style)) is row f = keeps.card style
  node-keeps val below (Some (Shuffle input list)) is row f =
      listed-keeps (val input) (below input) (slice_get list (row - 1)) f
  node-keeps val below (Some (Blur input n)) is row f =
      keeps.blur n (val input row f) is.1 is.2 (below input row f)
  node-keeps val below (Some (Keep input styles)) is row f = below input row (keeping styles f)
  node-keeps val below (Some (Delete input styles)) is row f = below input row (deleting styles f)

  walk-keeps :
      (rows : RowAnswers A) → ((j row : ℕ) (f : Dropped) → T (rows j row f))
      → (k : SheetRecord) → AreNodes k → (m : ℕ) (n : Ref) (row : ℕ) (f : Dropped) → T (walk R rows k m n row f)
  unfolding walk
  walk-keeps rows below k are zero n row f = keeps.nothing
  walk-keeps rows below k are (suc m) (ToColumn c) row f =
      keeps.moved (place_of k (column_at k c).peg row) (seen_by R rows (cell_at (column_at k c) row) row f)
      (seen-keeps rows below (cell_at (column_at k c) row) row f)
  walk-keeps rows below k are (suc m) (ToNode n) row f =
      node-keeps (walk R rows k m) (walk-keeps rows below k are m) (slice_get k.nodes n)
      (All-slice_get IsNode k.nodes n are) row f

  above-keeps : (val : Ref → A) → ((t : Ref) → T (val t)) → (ts : List Ref) (was : A) → T was → T (above_by R was (map val ts))
  above-keeps val below [] was before = before
  above-keeps val below (t ∷ ts) was before =
      above-keeps val below ts (R.pair Over (val t) was) (keeps.pair Over (val t) was (below t) before)

  composed-keeps : (val : Ref → A) → ((t : Ref) → T (val t)) → (ts : List Ref) → T (composed_by R (map val ts))
  composed-keeps val below [] = keeps.nothing
  composed-keeps val below (t ∷ ts) = above-keeps val below ts (val t) (below t)

  row_walk-keeps :
      (sheets : List SheetRecord) → ((k : ℕ) → AreNodes (sheet_at sheets k))
      → (d k row : ℕ) (f : Dropped) → T (row_walk R sheets d k row f)
  unfolding row_walk
  row_walk-keeps sheets are zero k row f = keeps.nothing
  row_walk-keeps sheets are (suc d) k row f =
      let val : Ref → A =
      λ t. walk R (row_walk R sheets d) (sheet_at sheets k) (depth_of (sheet_at sheets k)) t row f in
      composed-keeps val
      (λ t.
      walk-keeps (row_walk R sheets d) (row_walk-keeps sheets are d) (sheet_at sheets k) (are k)
      (depth_of (sheet_at sheets k)) t row f)
      (terminals_of (sheet_at sheets k))

  pub whole_row-keeps :
      (s : SceneRecord) → IsInRange s → (k row : ℕ) (f : Dropped) → T (whole_row R s.sheets k row f)
  whole_row-keeps s range = row_walk-keeps s.sheets (nodes-in_range s range) 16
