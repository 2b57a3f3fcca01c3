-- Two readings of one walk whose answers agree at each thing that the walk meets agree on every
-- column, node and row.
use Rattle.std.proofs.Common.{ℕ, zero, suc, ◌≡◌, refl, Option, Some, None, List, [], ◌∷◌, map, slice_get, ◌-◌}
use Rattle.xs_pixel.specs.declared.operation.Op.{Op}
use Rattle.xs_pixel.specs.declared.operation.Op.TheVariants.{Over}
use Rattle.xs_pixel.specs.declared.style.Style.{Style}
use Rattle.xs_scene.specs.declared.seen.Seen.{Seen}
use Rattle.xs_scene.specs.declared.seen.Seen.TheVariants.{Empty, Drawing, Row}
use Rattle.xs_scene.specs.declared.node.Ref.{Ref}
use Rattle.xs_scene.specs.declared.node.Ref.TheVariants.{Column as ToColumn, Node as ToNode}
use Rattle.xs_scene.specs.declared.node.Node.{Node}
use Rattle.xs_scene.specs.declared.node.Node.TheVariants.{Pair, Card, Shuffle, Blur, Keep, Delete}
use Rattle.xs_scene.specs.Records.{SheetRecord}
use Rattle.xs_meaning.specs.Cells.{cell_at}
use Rattle.xs_meaning.specs.Palettes.{Dropped, keeping, deleting}
use Rattle.xs_meaning.specs.Places.{place_of}
use Rattle.xs_pixel.specs.Points.{Point}
use Rattle.xs_meaning.specs.Walk.{Interpretation, RowAnswers, InputAnswers, sheet_at, column_at, terminals_of, seen_by, listed_by, node_by, walk, depth_of, above_by, composed_by, row_walk, whole_row, whole_input}

-- T d relates the answers of two readings below d nested sheets, F the styles dropped for them; only
-- cards and places of which the facts are known are met
pub record Agrees {A B : Type 0} (R : Interpretation A) (S : Interpretation B) (T : ℕ → A → B → Type 0)
    (F : Dropped → Dropped → Type 0) (IsCard : Style → Type 0) (IsPlace : Point → Type 0) : Type 0 where
  pub nothing : (d : ℕ) → T d R.nothing S.nothing
  pub drawing :
      (d level index row : ℕ) (f g : Dropped) → F f g → T d (R.drawing level index row f) (S.drawing level index row g)
  pub moved : (d : ℕ) (q : Point) (a : A) (b : B) → IsPlace q → T d a b → T (suc d) (R.moved q a) (S.moved q b)
  pub card : (d : ℕ) (style : Style) → IsCard style → T d (R.card style) (S.card style)
  pub pair :
      (d : ℕ) (op : Op) (a a' : A) (b b' : B) → T d a b → T d a' b' → T d (R.pair op a a') (S.pair op b b')
  pub blur : (d n : ℕ) (a : A) (b : B) → T d a b → T d (R.blur n a) (S.blur n b)
  pub keep : (styles : List ℕ) (f g : Dropped) → F f g → F (keeping styles f) (keeping styles g)
  pub delete : (styles : List ℕ) (f g : Dropped) → F f g → F (deleting styles f) (deleting styles g)

-- the facts of the cards and places of a sheet
pub record Meets (IsCard : Style → Type 0) (IsPlace : Point → Type 0) (k : SheetRecord) : Type 0 where
  pub cards : (n : ℕ) (style : Style) → slice_get k.nodes n ≡ Some (Card style) → IsCard style
  pub places : (c row : ℕ) → IsPlace (place_of k (column_at k c).peg row)

-- of which nothing need be known
pub meets-any : (k : SheetRecord) → Meets (λ style. Unit {0}) (λ q. Unit {0}) k
meets-any k = record { cards = λ n style is. tt; places = λ c row. tt }

module _ {A B : Type 0} (R : Interpretation A) (S : Interpretation B) (T : ℕ → A → B → Type 0)
    (F : Dropped → Dropped → Type 0) (IsCard : Style → Type 0) (IsPlace : Point → Type 0)
    (agrees : Agrees R S T F IsCard IsPlace) where
  seen-agrees :
      (d : ℕ) (rows : RowAnswers A) (rows' : RowAnswers B)
      → ((j row : ℕ) (f g : Dropped) → F f g → T d (rows j row f) (rows' j row g))
      → (seen : Seen) (row : ℕ) (f g : Dropped) → F f g
      → T d (seen_by R rows seen row f) (seen_by S rows' seen row g)
  seen-agrees d rows rows' below Empty row f g same = agrees.nothing d
  seen-agrees d rows rows' below (Drawing level index) row f g same = agrees.drawing d level index row f g same
  seen-agrees d rows rows' below (Row sheet inner) row f g same = below sheet inner f g same

  listed-agrees :
      (d : ℕ) (input : ℕ → Dropped → A) (input' : ℕ → Dropped → B)
      → ((row : ℕ) (f g : Dropped) → F f g → T d (input row f) (input' row g))
      → (row : Option ℕ) (f g : Dropped) → F f g → T d (listed_by R input row f) (listed_by S input' row g)
  listed-agrees d input input' below None f g same = agrees.nothing d
  listed-agrees d input input' below (Some row) f g same = below row f g same

  node-agrees :
      (d : ℕ) (val : InputAnswers A) (val' : InputAnswers B)
      → ((t : Ref) (row : ℕ) (f g : Dropped) → F f g → T d (val t row f) (val' t row g))
      → (node : Option Node) → ((style : Style) → node ≡ Some (Card style) → IsCard style)
      → (row : ℕ) (f g : Dropped) → F f g → T d (node_by R val node row f) (node_by S val' node row g)
  node-agrees d val val' below None cards row f g same = agrees.nothing d
  node-agrees d val val' below (Some (Pair op first second)) cards row f g same =
      agrees.pair d op (val first row f) (val second row f) (val' first row g) (val' second row g)
      (below first row f g same) (below second row f g same)
  node-agrees d val val' below (Some (Card style)) cards row f g same = agrees.card d style (cards style refl)
  node-agrees d val val' below (Some (Shuffle input list)) cards row f g same =
      listed-agrees d (val input) (val' input) (below input) (slice_get list (row - 1)) f g same
  node-agrees d val val' below (Some (Blur input n)) cards row f g same =
      agrees.blur d n (val input row f) (val' input row g) (below input row f g same)
  node-agrees d val val' below (Some (Keep input styles)) cards row f g same =
      below input row (keeping styles f) (keeping styles g) (agrees.keep styles f g same)
  node-agrees d val val' below (Some (Delete input styles)) cards row f g same =
      below input row (deleting styles f) (deleting styles g) (agrees.delete styles f g same)

  -- on each column and node of a sheet, where they agree on the rows of the sheets that it shows
  pub walk-agrees :
      (d : ℕ) (rows : RowAnswers A) (rows' : RowAnswers B)
      → ((j row : ℕ) (f g : Dropped) → F f g → T d (rows j row f) (rows' j row g))
      → (k : SheetRecord) → Meets IsCard IsPlace k
      → (m : ℕ) (n : Ref) (row : ℕ) (f g : Dropped) → F f g
      → T (suc d) (walk R rows k m n row f) (walk S rows' k m n row g)
  unfolding walk
  walk-agrees d rows rows' below k meets zero n row f g same = agrees.nothing (suc d)
  walk-agrees d rows rows' below k meets (suc m) (ToColumn c) row f g same =
      agrees.moved d (place_of k (column_at k c).peg row)
      (seen_by R rows (cell_at (column_at k c) row) row f)
      (seen_by S rows' (cell_at (column_at k c) row) row g)
      (meets.places c row)
      (seen-agrees d rows rows' below (cell_at (column_at k c) row) row f g same)
  walk-agrees d rows rows' below k meets (suc m) (ToNode n) row f g same =
      node-agrees (suc d) (walk R rows k m) (walk S rows' k m)
      (walk-agrees d rows rows' below k meets m)
      (slice_get k.nodes n) (meets.cards n) row f g same

  above-agrees :
      (d : ℕ) (val : Ref → A) (val' : Ref → B) → ((t : Ref) → T d (val t) (val' t))
      → (ts : List Ref) (was : A) (was' : B) → T d was was'
      → T d (above_by R was (map val ts)) (above_by S was' (map val' ts))
  above-agrees d val val' below [] was was' before = before
  above-agrees d val val' below (t ∷ ts) was was' before =
      above-agrees d val val' below ts (R.pair Over (val t) was) (S.pair Over (val' t) was')
      (agrees.pair d Over (val t) was (val' t) was' (below t) before)

  composed-agrees :
      (d : ℕ) (val : Ref → A) (val' : Ref → B) → ((t : Ref) → T d (val t) (val' t))
      → (ts : List Ref) → T d (composed_by R (map val ts)) (composed_by S (map val' ts))
  composed-agrees d val val' below [] = agrees.nothing d
  composed-agrees d val val' below (t ∷ ts) = above-agrees d val val' below ts (val t) (val' t) (below t)

  -- on each row of each sheet
  pub row_walk-agrees :
      (sheets : List SheetRecord) → ((k : ℕ) → Meets IsCard IsPlace (sheet_at sheets k))
      → (d k row : ℕ) (f g : Dropped) → F f g
      → T d (row_walk R sheets d k row f) (row_walk S sheets d k row g)
  unfolding row_walk
  row_walk-agrees sheets meets zero k row f g same = agrees.nothing zero
  row_walk-agrees sheets meets (suc d) k row f g same =
      let val : Ref → A =
      λ t. walk R (row_walk R sheets d) (sheet_at sheets k) (depth_of (sheet_at sheets k)) t row f in
      let val' : Ref → B =
      λ t. walk S (row_walk S sheets d) (sheet_at sheets k) (depth_of (sheet_at sheets k)) t row g in
      composed-agrees (suc d) val val'
      (λ t.
      walk-agrees d (row_walk R sheets d) (row_walk S sheets d) (row_walk-agrees sheets meets d)
      (sheet_at sheets k) (meets k) (depth_of (sheet_at sheets k)) t row f g same)
      (terminals_of (sheet_at sheets k))

  -- and so on the whole rows, columns and nodes of the sheets
  pub whole_row-agrees :
      (sheets : List SheetRecord) → ((k : ℕ) → Meets IsCard IsPlace (sheet_at sheets k))
      → (k row : ℕ) (f g : Dropped) → F f g → T 16 (whole_row R sheets k row f) (whole_row S sheets k row g)
  whole_row-agrees sheets meets = row_walk-agrees sheets meets 16

  pub whole_input-agrees :
      (sheets : List SheetRecord) → ((k : ℕ) → Meets IsCard IsPlace (sheet_at sheets k))
      → (k : ℕ) (n : Ref) (row : ℕ) (f g : Dropped) → F f g → T 17 (whole_input R sheets k n row f) (whole_input S sheets k n row g)
  whole_input-agrees sheets meets k =
      walk-agrees 16 (whole_row R sheets) (whole_row S sheets) (whole_row-agrees sheets meets)
      (sheet_at sheets k) (meets k) (depth_of (sheet_at sheets k))
