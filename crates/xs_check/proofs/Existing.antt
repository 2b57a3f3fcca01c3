-- The drawings of a row of a good scene exist
use Rattle.std.proofs.Common.{◌<◌, ◌+◌, ◌-◌, ℕ, zero, suc, Option, Some, None, List, [], ◌∷◌, All, IfSome, length, map, slice_get, arith}
use Rattle.std.proofs.lemmas.Bool.{cond_both}
use Rattle.std.proofs.lemmas.List.Elements.{All-append, All-cons}
use Rattle.std.proofs.lemmas.List.Concat.{length-flat_map}
use Rattle.std.proofs.lemmas.List.Sums.{sum_by_more, sum_by-take-le}
use Rattle.std.specs.Prelude.{find}
use Rattle.std.specs.Option.{option_map_or}
use Rattle.xs_pixel.specs.Points.{Point, plus, opposite}
use Rattle.xs_pixel.specs.declared.operation.Op.{Op}
use Rattle.xs_pixel.specs.declared.operation.Op.TheVariants.{Over}
use Rattle.xs_scene.specs.declared.seen.Seen.{Seen}
use Rattle.xs_scene.specs.declared.seen.Seen.TheVariants.{Empty, Drawing, Row}
use Rattle.xs_scene.specs.declared.column.Shown.TheVariants.{Drawing as ShowsDrawing, Sheet as ShowsSheet}
use Rattle.xs_scene.specs.declared.column.Shown.{Shown}
use Rattle.xs_scene.specs.declared.node.Node.{Node}
use Rattle.xs_scene.specs.declared.node.Node.TheVariants.{Pair as PairNode, Card as CardNode, Shuffle, Blur as BlurNode, Keep, Delete}
use Rattle.xs_scene.specs.declared.node.Ref.{Ref}
use Rattle.xs_scene.specs.declared.node.Ref.TheVariants.{Column as ToColumn, Node as ToNode}
use Rattle.xs_scene.specs.Records.{SceneRecord, SheetRecord, ColumnRecord, ExposureRecord, LevelRecord, ColoursRecord}
use Rattle.xs_meaning.specs.Cells.{covers, cell_at, shown_after}
use Rattle.xs_meaning.specs.Drawings.{colours_of, number_of}
use Rattle.xs_meaning.specs.Expressions.{Expr, Clear, Leaf, Tinted, Card, Pair, Blur, is_clear, Staying, Both, First, Second, Neither, staying, pair_staying, blur_of, leaf_by, by_offsets, root_of, drawings_of}
use Rattle.xs_meaning.specs.Palettes.{Dropped, none_dropped, keeping, deleting, is_as_written, is_clear_pixel, pixel_of, tint_at}
use Rattle.xs_meaning.specs.Places.{place_of}
use Rattle.xs_meaning.specs.RowValues.{camera_at}
use Rattle.xs_meaning.specs.Walk.{RowAnswers, InputAnswers, no_sheet, no_column, sheet_at, column_at, terminals_of, seen_by, listed_by, node_by, walk, depth_of, above_by, composed_by, row_walk}
use Rattle.xs_meaning.proofs.Depth.{find-has}
use Rattle.xs_meaning.proofs.Lists.{All-slice_index_or}
use Rattle.xs_check.specs.Good.{IsGood, IsThere, level_at, no_drawings, files_of}

-- the drawings of an expression are below a number
abbrev pub HasBelow : ℕ → Expr → Type 0
HasBelow n e = All (λ d. d < n) (drawings_of e)

-- the same, by cases
abbrev pub IsBelow : ℕ → Expr → Type 0
IsBelow n Clear = Unit {0}
IsBelow n (Leaf d at) = d < n
IsBelow n (Tinted d at tint) = d < n
IsBelow n (Card pixel) = Unit {0}
IsBelow n (Pair op a b) = IsBelow n a × IsBelow n b
IsBelow n (Blur radius a) = IsBelow n a

number_below :
    (levels : List LevelRecord) (level index : ℕ) → level < length levels → index < length (level_at levels level).drawings
    → number_of levels level index < length (files_of levels)
number_below levels level index inside below =
    omega (
      arith,
      sum_by_more (λ (l : LevelRecord). length l.drawings) levels level no_drawings inside,
      sum_by-take-le (λ (l : LevelRecord). length l.drawings) levels (level + 1),
      length-flat_map (λ (l : LevelRecord). l.drawings) levels,
    )

below-pair_staying : (n : ℕ) (stays : Staying) (op : Op) (a b : Expr) → IsBelow n a → IsBelow n b → IsBelow n (pair_staying stays op a b)
below-pair_staying n Both op a b first second = (first, second)
below-pair_staying n First op a b first second = first
below-pair_staying n Second op a b first second = second
below-pair_staying n Neither op a b first second = tt

below-blur_of : (n radius : ℕ) (a : Expr) → IsBelow n a → IsBelow n (blur_of radius a)
below-blur_of n radius Clear below = tt
below-blur_of n radius (Leaf d at) below = below
below-blur_of n radius (Tinted d at tint) below = below
below-blur_of n radius (Card pixel) below = below
below-blur_of n radius (Pair op a b) below = below
below-blur_of n radius (Blur m a) below = below

below-leaf_by : (n : ℕ) (c : Option ColoursRecord) (d row : ℕ) (f : Dropped) (at : Point) → d < n → IsBelow n (leaf_by c d row f at)
below-leaf_by n None d row f at below = below
below-leaf_by n (Some c) d row f at below =
    cond_both (is_as_written c row f) (Leaf d at) (Tinted d at (tint_at c row f)) (IsBelow n) (λ passes. below) (λ fails. below)

pub has_below : (n : ℕ) (e : Expr) → IsBelow n e → HasBelow n e
has_below n Clear below = λ i d within. absurd (omega arith)
has_below n (Leaf d at) below = All-cons (λ k. k < n) d [] below (λ i d within. absurd (omega arith))
has_below n (Tinted d at tint) below = All-cons (λ k. k < n) d [] below (λ i d within. absurd (omega arith))
has_below n (Card pixel) below = λ i d within. absurd (omega arith)
has_below n (Pair op a b) below =
    All-append (λ k. k < n) (drawings_of a) (drawings_of b) (has_below n a below.0) (has_below n b below.1)
has_below n (Blur radius a) below = has_below n a below

-- ---- what a column shows

abbrev Exists : SceneRecord → Seen → Type 0
Exists s Empty = Unit {0}
Exists s (Drawing level index) = IsThere s (ShowsDrawing level index)
Exists s (Row sheet inner) = Unit {0}

column_exists : (s : SceneRecord) (column : ColumnRecord) (row : ℕ) → All (λ e. IsThere s e.shown) column.cells → Exists s (cell_at column row)
unfolding cell_at
column_exists s column row all =
    found (find (covers row) column.cells) (find-has (λ e. IsThere s e.shown) (covers row) column.cells all)
  where
    shows : (rows : ℕ) (shown : Shown) → IsThere s shown → Exists s (shown_after rows shown)
    shows rows (ShowsDrawing level index) there = there
    shows rows (ShowsSheet sheet start) there = tt

    found : (e : Option ExposureRecord) → IfSome e (λ e. IsThere s e.shown)
        → Exists s (option_map_or (λ e. shown_after (row - e.from) e.shown) e Empty)
    found None has = tt
    found (Some e) has = shows (row - e.from) e.shown has

cell_exists : (s : SceneRecord) → IsGood s → (k c row : ℕ) → Exists s (cell_at (column_at (sheet_at s.sheets k) c) row)
cell_exists s good k c row =
    let column = column_at (sheet_at s.sheets k) c in
    let cells : All (λ e. IsThere s e.shown) column.cells =
    All-slice_index_or (λ (column : ColumnRecord). All (λ e. IsThere s e.shown) column.cells) (sheet_at s.sheets k).columns c no_column
    (λ i d below. absurd (omega arith))
    (All-slice_index_or (λ (k : SheetRecord). All (λ (column : ColumnRecord). All (λ e. IsThere s e.shown) column.cells) k.columns)
    s.sheets k no_sheet (λ i d below. absurd (omega arith))
    (λ i d below j column inside. ((good.sheets i d below).columns j column inside).shown)) in
    column_exists s column row cells

module _ (s : SceneRecord) (good : IsGood s) where
  abbrev count : ℕ
  count = length (files_of s.levels)

  -- under each offset
  abbrev AreBelow : (Point → Expr) → Type 0
  AreBelow e = (o : Point) → IsBelow count (e o)

  seen-below :
      (rows : RowAnswers (Point → Expr)) → ((j row : ℕ) (f : Dropped) → AreBelow (rows j row f))
      → (seen : Seen) → Exists s seen → (row : ℕ) (f : Dropped) → AreBelow (seen_by (by_offsets s) rows seen row f)
  unfolding by_offsets
  seen-below rows below Empty there row f = λ o. tt
  seen-below rows below (Drawing level index) there row f = λ o.
      let number = number_of s.levels level index in
      below-leaf_by count (colours_of s number) number row f o (number_below s.levels level index there.0 there.1)
  seen-below rows below (Row sheet inner) there row f = below sheet inner f

  listed-below :
      (input : ℕ → Dropped → Point → Expr) → ((row : ℕ) (f : Dropped) → AreBelow (input row f))
      → (row : Option ℕ) (f : Dropped) → AreBelow (listed_by (by_offsets s) input row f)
  unfolding by_offsets
  listed-below input below None f = λ o. tt
  listed-below input below (Some row) f = below row f

  pair-below : (op : Op) (a b : Point → Expr) → AreBelow a → AreBelow b → AreBelow ((by_offsets s).pair op a b)
  unfolding by_offsets
  pair-below op a b first second = λ o.
      below-pair_staying count (staying op (is_clear (a o)) (is_clear (b o))) op (a o) (b o) (first o) (second o)

  node-below :
      (val : InputAnswers (Point → Expr)) → ((t : Ref) (row : ℕ) (f : Dropped) → AreBelow (val t row f))
      → (node : Option Node) (row : ℕ) (f : Dropped) → AreBelow (node_by (by_offsets s) val node row f)
  unfolding by_offsets
  node-below val below None row f = λ o. tt
  node-below val below (Some (PairNode op first second)) row f =
      pair-below op (val first row f) (val second row f) (below first row f) (below second row f)
  node-below val below (Some (CardNode style)) row f = λ o.
      cond_both (is_clear_pixel (pixel_of style)) Clear (Card (pixel_of style)) (IsBelow count) (λ passes. tt) (λ fails. tt)
  node-below val below (Some (Shuffle input list)) row f =
      listed-below (val input) (below input) (slice_get list (row - 1)) f
  node-below val below (Some (BlurNode input n)) row f = λ o. below-blur_of count n (val input row f o) (below input row f o)
  node-below val below (Some (Keep input styles)) row f = below input row (keeping styles f)
  node-below val below (Some (Delete input styles)) row f = below input row (deleting styles f)

  walk-below :
      (rows : RowAnswers (Point → Expr)) → ((j row : ℕ) (f : Dropped) → AreBelow (rows j row f))
      → (k m : ℕ) (n : Ref) (row : ℕ) (f : Dropped) → AreBelow (walk (by_offsets s) rows (sheet_at s.sheets k) m n row f)
  unfolding walk by_offsets
  walk-below rows below k zero n row f = λ o. tt
  walk-below rows below k (suc m) (ToColumn c) row f = λ o.
      let column = column_at (sheet_at s.sheets k) c in
      seen-below rows below (cell_at column row)
      (cell_exists s good k c row) row f
      (plus o (place_of (sheet_at s.sheets k) column.peg row))
  walk-below rows below k (suc m) (ToNode n) row f =
      node-below (walk (by_offsets s) rows (sheet_at s.sheets k) m) (walk-below rows below k m)
      (slice_get (sheet_at s.sheets k).nodes n) row f

  above-below :
      (val : Ref → Point → Expr) → ((t : Ref) → AreBelow (val t)) → (ts : List Ref) (was : Point → Expr) → AreBelow was
      → AreBelow (above_by (by_offsets s) was (map val ts))
  above-below val below [] was before = before
  above-below val below (t ∷ ts) was before =
      above-below val below ts ((by_offsets s).pair Over (val t) was) (pair-below Over (val t) was (below t) before)

  composed-below :
      (val : Ref → Point → Expr) → ((t : Ref) → AreBelow (val t)) → (ts : List Ref) → AreBelow (composed_by (by_offsets s) (map val ts))
  unfolding by_offsets
  composed-below val below [] = λ o. tt
  composed-below val below (t ∷ ts) = above-below val below ts (val t) (below t)

  row_walk-below : (d k row : ℕ) (f : Dropped) → AreBelow (row_walk (by_offsets s) s.sheets d k row f)
  unfolding row_walk by_offsets
  row_walk-below zero k row f = λ o. tt
  row_walk-below (suc d) k row f =
      let val : Ref → Point → Expr =
      λ t. walk (by_offsets s) (row_walk (by_offsets s) s.sheets d) (sheet_at s.sheets k) (depth_of (sheet_at s.sheets k)) t row f in
      composed-below val
      (λ t. walk-below (row_walk (by_offsets s) s.sheets d) (row_walk-below d) k (depth_of (sheet_at s.sheets k)) t row f)
      (terminals_of (sheet_at s.sheets k))

  pub root-below : (row : ℕ) → HasBelow count (root_of s row)
  root-below row = has_below count (root_of s row) (row_walk-below 16 0 row none_dropped (opposite (camera_at s row)))
