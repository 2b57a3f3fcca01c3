-- Where every way ends, more depth changes nothing, and the rules hold as equations
use Rattle.std.proofs.Common.{ℕ, zero, suc, ◌+◌, ◌-◌, ◌≡◌, ◌≤◌, ◌<◌, refl, sym, ap, ap₂, ◌∙◌, subst, Bool, Option, Some, None, List, [], ◌∷◌, map, find, slice_get, length, All, IfSome, arith, ⊎_elim}
use Rattle.std.specs.Option.{option_map_or}
use Rattle.std.proofs.lemmas.Bool.{cases_lt, cond_both}
use Rattle.std.proofs.lemmas.List.Elements.{All-head, All-tail}
use Rattle.std.proofs.lemmas.Option.{slice_get_past}
use mathlib.Core.Path.{fun_ext}
use Rattle.xs_scene.specs.declared.column.Shown.{Shown}
use Rattle.xs_scene.specs.declared.column.Shown.TheVariants.{Drawing as ShowsDrawing, Sheet}
use Rattle.xs_scene.specs.declared.seen.Seen.{Seen}
use Rattle.xs_scene.specs.declared.seen.Seen.TheVariants.{Empty, Drawing, Row}
use Rattle.xs_scene.specs.declared.node.Ref.{Ref}
use Rattle.xs_scene.specs.declared.node.Ref.TheVariants.{Column as ToColumn, Node as ToNode}
use Rattle.xs_scene.specs.declared.node.Node.{Node}
use Rattle.xs_scene.specs.declared.node.Node.TheVariants.{Pair, Card, Shuffle, Blur, Keep, Delete}
use Rattle.xs_scene.specs.Records.{SheetRecord, ColumnRecord, ExposureRecord}
use Rattle.xs_meaning.specs.Cells.{cell_at, covers, shown_after}
use Rattle.xs_meaning.specs.Ends.{InputsHave, NodesEnd, ShownHas, SeenHas, SheetsEnd, PegsEnd, AllEnd}
use Rattle.xs_meaning.specs.Palettes.{Dropped, keeping, deleting}
use Rattle.xs_meaning.specs.Places.{place_up, place_of, peg_at, own_offset}
use Rattle.xs_pixel.specs.Points.{plus}
use Rattle.xs_meaning.specs.Walk.{Interpretation, RowAnswers, InputAnswers, sheet_at, column_at, no_column, terminals_of, seen_by, column_by, listed_by, node_by, walk, depth_of, composed_by, row_by, row_walk, whole_row, whole_input}
use Rattle.xs_meaning.proofs.Lists.{All-slice_index_or}

-- two answers for the same inputs at every row under every dropped styles
abbrev SameInput : {A : Type 0} → InputAnswers A → InputAnswers A → Ref → Type 0
SameInput val val' t = (row : ℕ) (f : Dropped) → val t row f ≡ val' t row f

InputsHave-map :
    (P Q : Ref → Type 0) → ((t : Ref) → P t → Q t) → (node : Option Node) → InputsHave P node → InputsHave Q node
InputsHave-map P Q leads None have = tt
InputsHave-map P Q leads (Some (Pair op first second)) have = (leads first have.0, leads second have.1)
InputsHave-map P Q leads (Some (Card style)) have = tt
InputsHave-map P Q leads (Some (Shuffle input list)) have = leads input have
InputsHave-map P Q leads (Some (Blur input radius)) have = leads input have
InputsHave-map P Q leads (Some (Keep input styles)) have = leads input have
InputsHave-map P Q leads (Some (Delete input styles)) have = leads input have

InputsHave-all : (P : Ref → Type 0) → ((t : Ref) → P t) → (node : Option Node) → InputsHave P node
InputsHave-all P all None = tt
InputsHave-all P all (Some (Pair op first second)) = (all first, all second)
InputsHave-all P all (Some (Card style)) = tt
InputsHave-all P all (Some (Shuffle input list)) = all input
InputsHave-all P all (Some (Blur input radius)) = all input
InputsHave-all P all (Some (Keep input styles)) = all input
InputsHave-all P all (Some (Delete input styles)) = all input

listed_by-same :
    {A : Type 0} (R : Interpretation A) (val val' : InputAnswers A) (t : Ref) (row : Option ℕ) (f : Dropped)
    → SameInput val val' t → listed_by R (val t) row f ≡ listed_by R (val' t) row f
listed_by-same R val val' t None f same = refl
listed_by-same R val val' t (Some row) f same = same row f

-- a node whose inputs have the same answers has the same answer
node_by-same :
    {A : Type 0} (R : Interpretation A) (val val' : InputAnswers A) (node : Option Node) (row : ℕ) (f : Dropped)
    → InputsHave (SameInput val val') node → node_by R val node row f ≡ node_by R val' node row f
node_by-same R val val' None row f same = refl
node_by-same R val val' (Some (Pair op first second)) row f same = ap₂ (R.pair op) (same.0 row f) (same.1 row f)
node_by-same R val val' (Some (Card style)) row f same = refl
node_by-same R val val' (Some (Shuffle input list)) row f same =
    listed_by-same R val val' input (slice_get list (row - 1)) f same
node_by-same R val val' (Some (Blur input radius)) row f same = ap (R.blur radius) (same row f)
node_by-same R val val' (Some (Keep input styles)) row f same = same row (keeping styles f)
node_by-same R val val' (Some (Delete input styles)) row f same = same row (deleting styles f)

-- a walk that ends is no other with more depth
walk-deeper :
    {A : Type 0} (R : Interpretation A) (rows : RowAnswers A) (k : SheetRecord) (m more : ℕ) → m ≤ more
    → (n : Ref) → NodesEnd k m n → SameInput (walk R rows k (suc more)) (walk R rows k (suc m)) n
unfolding walk NodesEnd
walk-deeper R rows k zero more le (ToColumn c) ends row f = refl
walk-deeper R rows k zero more le (ToNode n) ends row f = absurd ends
walk-deeper R rows k (suc m) more le (ToColumn c) ends row f = refl
walk-deeper R rows k (suc m) zero le (ToNode n) ends row f = absurd (omega arith)
walk-deeper R rows k (suc m) (suc more) le (ToNode n) ends row f =
    node_by-same R (walk R rows k (suc more)) (walk R rows k (suc m)) (slice_get k.nodes n) row f
    (InputsHave-map (NodesEnd k m) (SameInput (walk R rows k (suc more)) (walk R rows k (suc m)))
    (λ t. walk-deeper R rows k m more (omega arith) t) (slice_get k.nodes n) ends)

pub find-has : {X : Type 0} (P : X → Type 0) (test : X → Bool) (xs : List X) → All P xs → IfSome (find test xs) P
find-has P test [] all = tt
find-has P test (x ∷ xs) all =
    cond_both (test x) (Some x) (find test xs) (λ o. IfSome o P)
    (λ passes. All-head P x xs all) (λ fails. find-has P test xs (All-tail P x xs all))

cell_at-has :
    (P : ℕ → Type 0) (column : ColumnRecord) (row : ℕ)
    → All (λ e. ShownHas P e.shown) column.cells → SeenHas P (cell_at column row)
unfolding cell_at
cell_at-has P column row all =
    found (find (covers row) column.cells) (find-has (λ e. ShownHas P e.shown) (covers row) column.cells all)
  where
    shows : (rows : ℕ) (shown : Shown) → ShownHas P shown → SeenHas P (shown_after rows shown)
    shows rows (ShowsDrawing level index) has = tt
    shows rows (Sheet sheet start) has = has

    found : (e : Option ExposureRecord) → IfSome e (λ e. ShownHas P e.shown)
        → SeenHas P (option_map_or (λ e. shown_after (row - e.from) e.shown) e Empty)
    found None has = tt
    found (Some e) has = shows (row - e.from) e.shown has

-- the ways from a sheet that a column sees have one sheet fewer
pub seen-ends :
    (sheets : List SheetRecord) (d k c row : ℕ) → SheetsEnd sheets (d + 1) k
    → SeenHas (SheetsEnd sheets d) (cell_at (column_at (sheet_at sheets k) c) row)
seen-ends sheets d k c row ends =
    cell_at-has (SheetsEnd sheets d) (column_at (sheet_at sheets k) c) row
    (All-slice_index_or (λ column. All (λ e. ShownHas (SheetsEnd sheets d) e.shown) column.cells)
    (sheet_at sheets k).columns c no_column (λ i e lt. absurd (omega arith))
    (unfold SheetsEnd in subst (λ (n : ℕ). SheetsEnd sheets n k) (let e : d + 1 ≡ suc d = omega arith in e) ends))

-- two answers for the rows of a sheet
abbrev SameRows : {A : Type 0} → RowAnswers A → RowAnswers A → ℕ → Type 0
SameRows rows rows' j = (row : ℕ) (f : Dropped) → rows j row f ≡ rows' j row f

seen_by-same :
    {A : Type 0} (R : Interpretation A) (rows rows' : RowAnswers A) (seen : Seen) (row : ℕ) (f : Dropped)
    → SeenHas (SameRows rows rows') seen → seen_by R rows seen row f ≡ seen_by R rows' seen row f
seen_by-same R rows rows' Empty row f same = refl
seen_by-same R rows rows' (Drawing level index) row f same = refl
seen_by-same R rows rows' (Row sheet inner) row f same = same inner f

-- P holds of each sheet that a sheet's columns show
abbrev ShowsOnly : (ℕ → Type 0) → SheetRecord → Type 0
ShowsOnly P k = All (λ column. All (λ e. ShownHas P e.shown) column.cells) k.columns

ShownHas-map : (P Q : ℕ → Type 0) → ((j : ℕ) → P j → Q j) → (shown : Shown) → ShownHas P shown → ShownHas Q shown
ShownHas-map P Q leads (ShowsDrawing level index) has = tt
ShownHas-map P Q leads (Sheet sheet start) has = leads sheet has

ShowsOnly-map : (P Q : ℕ → Type 0) → ((j : ℕ) → P j → Q j) → (k : SheetRecord) → ShowsOnly P k → ShowsOnly Q k
ShowsOnly-map P Q leads k shows = λ i column lt j e below. ShownHas-map P Q leads _ (shows i column lt j e below)

column_by-same :
    {A : Type 0} (R : Interpretation A) (rows rows' : RowAnswers A) (k : SheetRecord) (c row : ℕ) (f : Dropped)
    → ShowsOnly (SameRows rows rows') k → column_by R rows k c row f ≡ column_by R rows' k c row f
column_by-same R rows rows' k c row f shows =
    ap (R.moved (place_of k (column_at k c).peg row))
    (seen_by-same R rows rows' (cell_at (column_at k c) row) row f
    (cell_at-has (SameRows rows rows') (column_at k c) row
    (All-slice_index_or (λ column. All (λ e. ShownHas (SameRows rows rows') e.shown) column.cells)
    k.columns c no_column (λ i d lt. absurd (omega arith)) shows)))

walk-same :
    {A : Type 0} (R : Interpretation A) (rows rows' : RowAnswers A) (k : SheetRecord) → ShowsOnly (SameRows rows rows') k
    → (m : ℕ) (n : Ref) → SameInput (walk R rows k m) (walk R rows' k m) n
unfolding walk
walk-same R rows rows' k shows zero n row f = refl
walk-same R rows rows' k shows (suc m) (ToColumn c) row f = column_by-same R rows rows' k c row f shows
walk-same R rows rows' k shows (suc m) (ToNode n) row f =
    node_by-same R (walk R rows k m) (walk R rows' k m) (slice_get k.nodes n) row f
    (InputsHave-all (SameInput (walk R rows k m) (walk R rows' k m)) (walk-same R rows rows' k shows m)
    (slice_get k.nodes n))

row_by-same :
    {A : Type 0} (R : Interpretation A) (val val' : InputAnswers A) (k : SheetRecord) (row : ℕ) (f : Dropped)
    → ((t : Ref) → val t row f ≡ val' t row f) → row_by R val k row f ≡ row_by R val' k row f
row_by-same R val val' k row f same =
    ap (λ v. composed_by R (map v (terminals_of k))) (fun_ext same)

-- a row whose nested sheets end is no other with more depth
row_walk-deeper :
    {A : Type 0} (R : Interpretation A) (sheets : List SheetRecord) (d more : ℕ) → d ≤ more
    → (k : ℕ) → SheetsEnd sheets d k → SameRows (row_walk R sheets more) (row_walk R sheets d) k
unfolding row_walk SheetsEnd
row_walk-deeper R sheets zero more le k ends row f = absurd ends
row_walk-deeper R sheets (suc d) zero le k ends row f = absurd (omega arith)
row_walk-deeper R sheets (suc d) (suc more) le k ends row f =
    row_by-same R
    (walk R (row_walk R sheets more) (sheet_at sheets k) (depth_of (sheet_at sheets k)))
    (walk R (row_walk R sheets d) (sheet_at sheets k) (depth_of (sheet_at sheets k)))
    (sheet_at sheets k) row f
    (λ t.
    walk-same R (row_walk R sheets more) (row_walk R sheets d) (sheet_at sheets k)
    (ShowsOnly-map (SheetsEnd sheets d) (SameRows (row_walk R sheets more) (row_walk R sheets d))
    (row_walk-deeper R sheets d more (omega arith)) (sheet_at sheets k) ends)
    (depth_of (sheet_at sheets k)) t row f)

-- the rules of a column, a node and a row, for every reading

pub whole_input-column :
    {A : Type 0} (R : Interpretation A) (sheets : List SheetRecord) (k c row : ℕ) (f : Dropped)
    → whole_input R sheets k (ToColumn c) row f ≡ column_by R (whole_row R sheets) (sheet_at sheets k) c row f
unfolding walk
whole_input-column R sheets k c row f = refl

-- the inputs of a node whose ways end are the same one deeper
inputs-settled :
    {A : Type 0} (R : Interpretation A) (rows : RowAnswers A) (k : SheetRecord) (l n : ℕ) → NodesEnd k l (ToNode n)
    → InputsHave (SameInput (walk R rows k l) (walk R rows k (suc l))) (slice_get k.nodes n)
unfolding NodesEnd
inputs-settled R rows k zero n ends = absurd ends
inputs-settled R rows k (suc l) n ends =
    InputsHave-map (NodesEnd k l) (SameInput (walk R rows k (suc l)) (walk R rows k (suc (suc l))))
    (λ t input_ends row f. sym (walk-deeper R rows k l (suc l) (omega arith) t input_ends row f))
    (slice_get k.nodes n) ends

pub whole_input-node :
    {A : Type 0} (R : Interpretation A) (sheets : List SheetRecord) → AllEnd sheets
    → (k n row : ℕ) (f : Dropped)
    → whole_input R sheets k (ToNode n) row f
    ≡ node_by R (whole_input R sheets k) (slice_get (sheet_at sheets k).nodes n) row f
unfolding walk
whole_input-node R sheets ends k n row f =
    node_by-same R (walk R (whole_row R sheets) (sheet_at sheets k) (length (sheet_at sheets k).nodes))
    (whole_input R sheets k) (slice_get (sheet_at sheets k).nodes n) row f
    (⊎_elim there past (cases_lt n (length (sheet_at sheets k).nodes)))
  where
    Settled : Option Node → Type 0
    Settled =
        InputsHave
        (SameInput (walk R (whole_row R sheets) (sheet_at sheets k) (length (sheet_at sheets k).nodes))
        (whole_input R sheets k))

    past : length (sheet_at sheets k).nodes ≤ n → Settled (slice_get (sheet_at sheets k).nodes n)
    past le = subst Settled (sym (slice_get_past (sheet_at sheets k).nodes n le)) tt

    there : n < length (sheet_at sheets k).nodes → Settled (slice_get (sheet_at sheets k).nodes n)
    there lt =
        inputs-settled R (whole_row R sheets) (sheet_at sheets k) (length (sheet_at sheets k).nodes) n
        (ends.nodes k n lt)

pub whole_row-row :
    {A : Type 0} (R : Interpretation A) (sheets : List SheetRecord) → AllEnd sheets
    → (k row : ℕ) (f : Dropped)
    → whole_row R sheets k row f ≡ row_by R (whole_input R sheets k) (sheet_at sheets k) row f
whole_row-row R sheets ends k row f =
    sym (row_walk-deeper R sheets 16 17 (omega arith) k (ends.sheets_end k) row f) ∙ one_deeper 16 row f
  where
    one_deeper : (d row : ℕ) (f : Dropped)
        → row_walk R sheets (suc d) k row f
        ≡ row_by R (walk R (row_walk R sheets d) (sheet_at sheets k) (depth_of (sheet_at sheets k))) (sheet_at sheets k) row f
    one_deeper d row f = unfold row_walk in refl

-- a chain of pegs that ends has no other place with more depth
place_up-deeper :
    (k : SheetRecord) (m more : ℕ) → m ≤ more → (peg : Option ℕ) → PegsEnd k m peg
    → (row : ℕ) → place_up more k peg row ≡ place_up m k peg row
unfolding place_up PegsEnd
place_up-deeper k zero zero le None ends row = refl
place_up-deeper k zero (suc more) le None ends row = refl
place_up-deeper k zero more le (Some i) ends row = absurd ends
place_up-deeper k (suc m) zero le peg ends row = absurd (omega arith)
place_up-deeper k (suc m) (suc more) le None ends row = refl
place_up-deeper k (suc m) (suc more) le (Some i) ends row =
    ap (plus (own_offset (peg_at k i).keys row)) (place_up-deeper k m more (omega arith) (peg_at k i).parent ends row)

-- a peg's place is its own offset and its parent's place
pub place_of-peg :
    (sheets : List SheetRecord) → AllEnd sheets → (k i row : ℕ) → i < length (sheet_at sheets k).pegs
    → place_of (sheet_at sheets k) (Some i) row
    ≡ plus (own_offset (peg_at (sheet_at sheets k) i).keys row)
    (place_of (sheet_at sheets k) (peg_at (sheet_at sheets k) i).parent row)
place_of-peg sheets ends k i row lt =
    sym (place_up-deeper (sheet_at sheets k) 64 65 (omega arith) (Some i) (ends.pegs k i lt) row) ∙ one_deeper 64
  where
    one_deeper : (m : ℕ)
        → place_up (suc m) (sheet_at sheets k) (Some i) row
        ≡ plus (own_offset (peg_at (sheet_at sheets k) i).keys row)
        (place_up m (sheet_at sheets k) (peg_at (sheet_at sheets k) i).parent row)
    one_deeper m = unfold place_up in refl

-- no way through a sheet's nodes is longer than the sheet has nodes
pub whole_input-deeper :
    {A : Type 0} (R : Interpretation A) (sheets : List SheetRecord) → AllEnd sheets
    → (more k : ℕ) (n : Ref) (row : ℕ) (f : Dropped)
    → walk R (whole_row R sheets) (sheet_at sheets k) (depth_of (sheet_at sheets k) + more) n row f
    ≡ whole_input R sheets k n row f
unfolding walk
whole_input-deeper R sheets ends more k n row f =
    ap (λ m. walk R (whole_row R sheets) (sheet_at sheets k) m n row f)
    (let is : depth_of (sheet_at sheets k) + more ≡ suc (length (sheet_at sheets k).nodes + more) = omega arith in is)
    ∙ deeper n
  where
    rest : ℕ
    rest = length (sheet_at sheets k).nodes

    past : (m n : ℕ) → rest ≤ n → walk R (whole_row R sheets) (sheet_at sheets k) (suc m) (ToNode n) row f ≡ R.nothing
    past m n le =
        ap (λ node. node_by R (walk R (whole_row R sheets) (sheet_at sheets k) m) node row f)
        (slice_get_past (sheet_at sheets k).nodes n le)

    deeper : (n : Ref)
        → walk R (whole_row R sheets) (sheet_at sheets k) (suc (rest + more)) n row f
        ≡ walk R (whole_row R sheets) (sheet_at sheets k) (suc rest) n row f
    deeper (ToColumn c) = refl
    deeper (ToNode n) =
        ⊎_elim
        (λ lt.
        walk-deeper R (whole_row R sheets) (sheet_at sheets k) rest (rest + more) (omega arith) (ToNode n)
        (ends.nodes k n lt) row f)
        (λ le. past (rest + more) n le ∙ sym (past rest n le))
        (cases_lt n rest)

pub whole_row-deeper :
    {A : Type 0} (R : Interpretation A) (sheets : List SheetRecord) → AllEnd sheets
    → (more k row : ℕ) (f : Dropped) → row_walk R sheets (16 + more) k row f ≡ whole_row R sheets k row f
whole_row-deeper R sheets ends more k row f =
    row_walk-deeper R sheets 16 (16 + more) (omega arith) k (ends.sheets_end k) row f
