use Rattle.std.proofs.Common.{◌≡◌, ◌≢◌, ◌<◌, ◌≤◌, ◌+◌, ◌↔◌, ◌∙◌, ℕ, zero, suc, Bool, true, false, not, ltb, leb, bytes_eq, Option, Some, None, IfSome, List, [], ◌∷◌, All, AllPairs, Contains, Decides, length, map, get_or, take, refl, sym, subst, inl, inr, arith}
use Rattle.std.specs.List.{list_all}
use Rattle.std.proofs.lemmas.Bool.{cases_lt, cases_Bool, ltb-true, leb-true, false≢true}
use Rattle.std.proofs.lemmas.List.{get_or-take, get_or_past, length-map, length-take}
use Rattle.std.proofs.lemmas.List.Elements.{Contains-append_cases}
use Rattle.std.proofs.Math.ListN.{get_or-map}
use Rattle.std.specs.Option.{option_to_list}
use Rattle.xs_base.specs.declared.limits.TheConstants.{MOST_STYLES, MOST_STYLE_KEYS, MOST_COLUMNS, MOST_NODES, DEEPEST_NEST, LONGEST_PEG_CHAIN, MOST_TERMINALS}
use Rattle.xs_fault.specs.Paths.{path_of}
use Rattle.xs_fault.specs.Paths.{index_at}
use Rattle.xs_fault.specs.declared.field.Field.TheVariants as field
use Rattle.xs_fault.specs.declared.code.SceneCode.{SceneCode}
use Rattle.xs_fault.specs.declared.code.SceneCode.TheVariants as code
use Rattle.xs_scene.specs.declared.level.Kind.{Kind}
use Rattle.xs_scene.specs.declared.level.Kind.TheVariants.{Colour, Cm32}
use Rattle.xs_scene.specs.declared.column.Shown.{Shown}
use Rattle.xs_scene.specs.declared.column.Shown.TheVariants.{Drawing, Sheet}
use Rattle.xs_scene.specs.declared.node.Ref.{Ref}
use Rattle.xs_scene.specs.declared.node.Ref.TheVariants.{Column as ToColumn, Node as ToNode}
use Rattle.xs_scene.specs.declared.node.Node.{Node}
use Rattle.xs_scene.specs.declared.node.Node.TheVariants.{Pair, Card, Shuffle, Blur, Keep, Delete}
use Rattle.xs_scene.specs.InRange.{IsInRange}
use Rattle.xs_scene.specs.Records.{SceneRecord, SheetRecord, ColumnRecord, ExposureRecord, PegRecord, LevelRecord, ColoursRecord, StyleKeyRecord}
use Rattle.xs_meaning.specs.Walk.{no_sheet, sheet_at}
use Rattle.xs_meaning.specs.Inputs.{nodes_of, inputs_of}
use Rattle.xs_meaning.specs.Ends.{InputsHave, NodesEnd, SheetsEnd, PegsEnd, AllEnd}
use Rattle.xs_check.specs.Finding.{Finding, unless, or_else, each_from, in_list, if_there}
use Rattle.xs_index.specs.Apart.{AreApart, DifferInRow, DifferInRowOrStyle}
use Rattle.xs_check.specs.Good.{level_at, IsGood, IsGoodSheet, IsGoodColumn, IsGoodNode, IsGoodPeg, IsGoodPalette, HasFewEntries, HasPalette, IsThere, Targets, files_of}
use Rattle.xs_check.specs.Links.{parent_links, input_links, sheet_links}
use Rattle.xs_check.specs.Passes as pass
use Rattle.xs_check.specs.Passes.{are_apart, differ_in_row, differ_in_row_or_style, apart_fault, file_fault, long_chain_fault, cycle_fault, cell_reference_fault, level_reference_fault, node_reference_fault}
use Rattle.xs_graph.specs.Paths.{Links, successors, LiesOnCycle, HasChain, has_chain}
use Rattle.xs_graph.specs.Cycles.{lies_on_cycle}
use Rattle.xs_check.proofs.Endings.{pegs_end, sheets_end, nodes_end}
use Rattle.xs_check.proofs.FirstShared.{earlier_decided}
use Rattle.xs_check.proofs.Tests.{cells_decided, rows_decided, keys_decided, texts_decided}

-- ---- what it means that nothing was found

pub both_none : (first second : Finding) → or_else first second ≡ None → (first ≡ None) × (second ≡ None)
both_none None second none = (refl, none)
both_none (Some fault) second none = absurd (cc)

pub test_holds : (code : SceneCode) (at : List ℕ) (b : Bool) → unless code at b ≡ None → b ≡ true
test_holds code at true none = refl
test_holds code at false none = absurd (cc)

pub is_below : (code : SceneCode) (at : List ℕ) (a b : ℕ) → unless code at (ltb a b) ≡ None → a < b
is_below code at a b none = ltb-true a b (test_holds code at (ltb a b) none)

pub is_at_most : (code : SceneCode) (at : List ℕ) (a b : ℕ) → unless code at (leb a b) ≡ None → a ≤ b
is_at_most code at a b none = leb-true a b (test_holds code at (leb a b) none)

pub each_index : {A : Type 0} (F : ℕ → A → Finding) (xs : List A) (i n k : ℕ) (d : A) → each_from F i xs ≡ None → k < length xs → i + k ≡ n
    → F n (get_or xs k d) ≡ None
each_index F [] i n k d none below is = absurd (omega arith)
each_index F (x ∷ xs) i n zero d none below is =
    let same : i ≡ n = omega arith in
    subst (λ (m : ℕ). F m x ≡ None) same (both_none (F i x) (each_from F (i + 1) xs) none).0
each_index F (x ∷ xs) i n (suc k) d none below is =
    each_index F xs (i + 1) n k d (both_none (F i x) (each_from F (i + 1) xs) none).1 (omega arith) (omega arith)

pub at_index : {A : Type 0} (F : List ℕ → A → Finding) (at : List ℕ) (xs : List A) → in_list at F xs ≡ None → (k : ℕ) (d : A) → k < length xs
    → F (index_at at k) (get_or xs k d) ≡ None
unfolding in_list
at_index F at xs none k d below = each_index (λ i x. F (index_at at i) x) xs 0 k k d none below (omega arith)

each_at_all : {A : Type 0} (F : List ℕ → A → Finding) (P : A → Type 0) → ((at : List ℕ) (x : A) → F at x ≡ None → P x)
    → (at : List ℕ) (xs : List A) → in_list at F xs ≡ None → All P xs
each_at_all F P h at xs none k d below = h (index_at at k) (get_or xs k d) (at_index F at xs none k d below)

pairs_from : {A : Type 0} (Apart : A → A → Type 0) (apart : A → A → Bool) → ((a b : A) → Decides (apart a b) (Apart a b)) → (path : ℕ → List ℕ)
    (xs : List A) → each_from (λ i x. unless code.Overlap (path i) (list_all (λ earlier. apart earlier x) (take i xs))) 0 xs ≡ None → AllPairs Apart xs
pairs_from Apart apart decides path xs none i j d less below =
    let test = list_all (λ earlier. apart earlier (get_or xs j d)) (take j xs) in
    let passed : unless code.Overlap (path j) test ≡ None =
    each_index (λ i x. unless code.Overlap (path i) (list_all (λ earlier. apart earlier x) (take i xs))) xs 0 j j d none below (omega arith) in
    let all = (earlier_decided Apart apart decides xs d d j below).0 (test_holds code.Overlap (path j) test passed) in
    let short : i < length (take j xs) = simp length-take (omega arith) in
    rw (← get_or-take j xs i d less) (all i d short)

pub each_apart_pairs : {A : Type 0} (Apart : A → A → Type 0) (apart : A → A → Bool) → ((a b : A) → Decides (apart a b) (Apart a b))
    → (at : List ℕ) (xs : List A) → apart_fault apart at xs ≡ None → AllPairs Apart xs
unfolding apart_fault
each_apart_pairs Apart apart decides at xs none = pairs_from Apart apart decides (λ i. index_at at i) xs none

pub files_pairs : (levels : List LevelRecord) → file_fault levels ≡ None → AllPairs (λ a b. a ≢ b) (files_of levels)
unfolding file_fault
files_pairs levels none =
    pairs_from (λ (a : List ℕ) (b : List ℕ). a ≢ b) (λ a b. not (bytes_eq a b)) texts_decided (pass.file_path 0 levels) (files_of levels) none

-- the test for a chain tells whether one begins at a node
abbrev pub ChainsTold : Type 0
ChainsTold = (links : Links) (steps a : ℕ) → (has_chain links steps a ≡ true) ↔ HasChain links steps a

-- without a cycle a chain has fewer steps than there are nodes
abbrev pub ChainsShort : Type 0
ChainsShort =
    (links : Links) → ((a c : ℕ) → Contains (successors links a) c → c < length links) → ((a : ℕ) → a < length links → LiesOnCycle links a → ⊥)
    → (steps a : ℕ) → a < length links → HasChain links steps a → steps < length links

-- the test for a cycle tells whether a node lies on one
abbrev pub CyclesTold : Type 0
CyclesTold = (links : Links) (a : ℕ) → (lies_on_cycle links a ≡ true) ↔ LiesOnCycle links a

chain_missing : ChainsTold → (links : Links) (steps a : ℕ) → (HasChain links steps a → ⊥) → has_chain links steps a ≡ false
chain_missing told links steps a none =
    elim (cases_Bool (has_chain links steps a)) [ inl begins ↦ absurd (none ((told links steps a).0 begins)) | inr missing ↦ missing ]

pub is_not : (b : Bool) → not b ≡ true → b ≡ false
is_not true h = absurd (cc)
is_not false h = refl

pub not_long : (most : ℕ) (links : Links) (at : List ℕ) → long_chain_fault most links at ≡ None
    → (k : ℕ) → k < length links → has_chain links most k ≡ false
unfolding long_chain_fault
not_long most links at none k below =
    is_not (has_chain links most k)
    (test_holds code.TooMany (index_at at k) (not (has_chain links most k))
    (each_index (λ i (targets : List ℕ). unless code.TooMany (index_at at i) (not (has_chain links most i))) links 0 k k [] none below (omega arith)))

pub not_cyclic : CyclesTold → (fault : SceneCode) (links : Links) (at : List ℕ) → cycle_fault fault links at ≡ None
    → (k : ℕ) → k < length links → LiesOnCycle links k → ⊥
unfolding cycle_fault
not_cyclic told fault links at none k below cycle =
    false≢true
    (sym
    (is_not (lies_on_cycle links k)
    (test_holds fault (index_at at k) (not (lies_on_cycle links k))
    (each_index (λ i (targets : List ℕ). unless fault (index_at at i) (not (lies_on_cycle links i))) links 0 k k [] none below (omega arith))))
    ∙ (told links k).1 cycle)

-- ---- the parts of a scene

few_entries : (at : List ℕ) (node : Node) → pass.node_size_fault at node ≡ None → HasFewEntries node
few_entries at (Pair op first second) none = tt
few_entries at (Card style) none = tt
few_entries at (Shuffle input list) none = is_at_most _ _ _ _ none
few_entries at (Blur input radius) none = tt
few_entries at (Keep input styles) none = is_at_most _ _ _ _ none
few_entries at (Delete input styles) none = is_at_most _ _ _ _ none

pub targets : (k : SheetRecord) (at : List ℕ) (target : Ref) → pass.target_fault k at target ≡ None → Targets k target
targets k at (ToColumn c) none = is_below _ _ _ _ none
targets k at (ToNode n) none = is_below _ _ _ _ none

inputs : (k : SheetRecord) (at : List ℕ) (node : Node) → node_reference_fault k at node ≡ None → InputsHave (Targets k) (Some node)
unfolding node_reference_fault
inputs k at (Pair op first second) none =
    let both = both_none (pass.target_fault k (path_of field.First at) first) (pass.target_fault k (path_of field.Second at) second) none in
    (targets k _ first both.0, targets k _ second both.1)
inputs k at (Card style) none = tt
inputs k at (Shuffle input list) none = targets k _ input none
inputs k at (Blur input radius) none = targets k _ input none
inputs k at (Keep input styles) none = targets k _ input none
inputs k at (Delete input styles) none = targets k _ input none

pub shown_there : (s : SceneRecord) (at : List ℕ) (shown : Shown) → pass.shown_reference_fault s at shown ≡ None → IsThere s shown
shown_there s at (Drawing level index) none =
    let both = both_none (pass.naming_fault (path_of field.Level at) s.levels level)
    (pass.naming_fault (path_of field.Drawing at) (level_at s.levels level).drawings index) none in
    (is_below _ _ _ _ both.0, is_below _ _ _ _ both.1)
shown_there s at (Sheet sheet start) none = is_below _ _ _ _ none

pub cell_there : (s : SceneRecord) (at : List ℕ) (e : ExposureRecord) → cell_reference_fault s at e ≡ None → IsThere s e.shown
unfolding cell_reference_fault
cell_there s at e none = shown_there s at e.shown none

has_palette : (s : SceneRecord) (at : List ℕ) (kind : Kind) → pass.kind_reference_fault s at kind ≡ None → HasPalette s kind
has_palette s at Colour none = tt
has_palette s at (Cm32 palette) none = is_below _ _ _ _ none

level_palette : (s : SceneRecord) (at : List ℕ) (level : LevelRecord) → level_reference_fault s at level ≡ None → HasPalette s level.kind
unfolding level_reference_fault
level_palette s at level none = has_palette s at level.kind none

names_there : {A : Type 0} (at : List ℕ) (things : List A) (number : Option ℕ) → if_there (pass.naming_fault at things) number ≡ None
    → IfSome number (λ n. n < length things)
names_there at things None none = tt
names_there at things (Some n) none = is_below _ _ _ _ none

at_most : {A : Type 0} (limit : ℕ) (at : List ℕ) (list : Option (List A)) → if_there (pass.length_fault limit at) list ≡ None
    → IfSome list (λ xs. length xs ≤ limit)
at_most limit at None none = tt
at_most limit at (Some xs) none = is_at_most _ _ _ _ none

terminals : (k : SheetRecord) (at : List ℕ) (out : Option (List Ref)) → if_there (in_list at (pass.target_fault k)) out ≡ None
    → IfSome out (All (Targets k))
terminals k at None none = tt
terminals k at (Some refs) none = each_at_all (pass.target_fault k) (Targets k) (targets k) at refs none

good_palette : (c : ColoursRecord) (at1 at2 at3 : List ℕ) → pass.palette_size_fault at1 c ≡ None → pass.palette_reference_fault at2 c ≡ None
    → pass.palette_overlap_fault at3 c ≡ None → IsGoodPalette c
good_palette c at1 at2 at3 sizes references overlaps =
    let few = both_none (pass.length_fault MOST_STYLES at1 c.styles) (pass.length_fault MOST_STYLE_KEYS (path_of field.Keys at1) c.keys) sizes in
    record {
      styles = is_at_most _ _ _ _ few.0;
      keys = is_at_most _ _ _ _ few.1;
      names =
          each_at_all (λ at (key : StyleKeyRecord). pass.naming_fault (path_of field.Style at) c.styles key.style)
          (λ key. key.style < length c.styles) (λ at key none. is_below _ _ _ _ none) (path_of field.Keys at2) c.keys references;
      differ = each_apart_pairs DifferInRowOrStyle differ_in_row_or_style keys_decided (path_of field.Keys at3) c.keys overlaps;
    }

peg_differ : (at : List ℕ) (peg : PegRecord) → pass.peg_overlap_fault at peg ≡ None → AllPairs DifferInRow peg.keys
peg_differ at peg none = each_apart_pairs DifferInRow differ_in_row rows_decided (path_of field.Keys at) peg.keys none

cells_apart : (at : List ℕ) (column : ColumnRecord) → pass.column_overlap_fault at column ≡ None → AllPairs AreApart column.cells
cells_apart at column none = each_apart_pairs AreApart are_apart cells_decided (path_of field.Cells at) column.cells none

module _ (s : SceneRecord) (k : SheetRecord) where
  good_pegs : (at1 at2 : List ℕ) → in_list at1 (pass.peg_reference_fault k) k.pegs ≡ None → in_list at2 pass.peg_overlap_fault k.pegs ≡ None
      → All (IsGoodPeg k) k.pegs
  good_pegs at1 at2 references overlaps i d below =
      record {
        parent =
            each_at_all (pass.peg_reference_fault k) (λ peg. IfSome peg.parent (λ p. p < length k.pegs))
            (λ at peg none. names_there (path_of field.Parent at) k.pegs peg.parent none) at1 k.pegs references i d below;
        differ =
            each_at_all pass.peg_overlap_fault (λ peg. AllPairs DifferInRow peg.keys) peg_differ at2 k.pegs overlaps i d below;
      }

  column_parts : (at : List ℕ) (column : ColumnRecord) → pass.column_reference_fault s k at column ≡ None
      → (if_there (pass.naming_fault (path_of field.Peg at) k.pegs) column.peg ≡ None)
      × (in_list (path_of field.Cells at) (cell_reference_fault s) column.cells ≡ None)
  column_parts at column none = both_none _ _ none

  good_columns : (at1 at2 : List ℕ) → in_list at1 (pass.column_reference_fault s k) k.columns ≡ None → in_list at2 pass.column_overlap_fault k.columns ≡ None
      → All (IsGoodColumn s k) k.columns
  good_columns at1 at2 references overlaps i d below =
      record {
        peg =
            each_at_all (pass.column_reference_fault s k) (λ column. IfSome column.peg (λ p. p < length k.pegs))
            (λ at column none. names_there (path_of field.Peg at) k.pegs column.peg (column_parts at column none).0) at1 k.columns references i d below;
        shown =
            each_at_all (pass.column_reference_fault s k) (λ column. All (λ e. IsThere s e.shown) column.cells)
            (λ at column none.
            each_at_all (cell_reference_fault s) (λ e. IsThere s e.shown) (cell_there s) (path_of field.Cells at) column.cells
            (column_parts at column none).1)
            at1 k.columns references i d below;
        apart =
            each_at_all pass.column_overlap_fault (λ column. AllPairs AreApart column.cells) cells_apart at2 k.columns overlaps i d below;
      }

  good_nodes : (at1 at2 : List ℕ) → in_list at1 pass.node_size_fault k.nodes ≡ None → in_list at2 (node_reference_fault k) k.nodes ≡ None
      → All (IsGoodNode k) k.nodes
  good_nodes at1 at2 sizes references i d below =
      record {
        entries = each_at_all pass.node_size_fault HasFewEntries few_entries at1 k.nodes sizes i d below;
        inputs = each_at_all (node_reference_fault k) (λ node. InputsHave (Targets k) (Some node)) (inputs k) at2 k.nodes references i d below;
      }

  good_sheet : (at1 at2 at3 : List ℕ) → pass.sheet_size_fault at1 k ≡ None → pass.sheet_reference_fault s at2 k ≡ None
      → pass.sheet_overlap_fault at3 k ≡ None → IsGoodSheet s k
  good_sheet at1 at2 at3 sizes references overlaps =
      let columns = both_none (pass.length_fault MOST_COLUMNS (path_of field.Columns at1) k.columns) _ sizes in
      let nodes = both_none (pass.length_fault MOST_NODES (path_of field.Nodes at1) k.nodes) _ columns.1 in
      let entries = both_none (in_list (path_of field.Nodes at1) pass.node_size_fault k.nodes) _ nodes.1 in
      let parents = both_none (in_list (path_of field.Pegs at2) (pass.peg_reference_fault k) k.pegs) _ references in
      let shown = both_none (in_list (path_of field.Columns at2) (pass.column_reference_fault s k) k.columns) _ parents.1 in
      let taken = both_none (in_list (path_of field.Nodes at2) (node_reference_fault k) k.nodes) _ shown.1 in
      let apart = both_none (in_list (path_of field.Pegs at3) pass.peg_overlap_fault k.pegs)
      (in_list (path_of field.Columns at3) pass.column_overlap_fault k.columns) overlaps in
      record {
        few_columns = is_at_most _ _ _ _ columns.0;
        few_nodes = is_at_most _ _ _ _ nodes.0;
        few_out = at_most MOST_TERMINALS (path_of field.Out at1) k.out entries.1;
        pegs = good_pegs (path_of field.Pegs at2) (path_of field.Pegs at3) parents.0 apart.0;
        columns = good_columns (path_of field.Columns at2) (path_of field.Columns at3) shown.0 apart.1;
        nodes = good_nodes (path_of field.Nodes at1) (path_of field.Nodes at2) entries.0 taken.0;
        terminals = terminals k (path_of field.Out at2) k.out taken.1;
      }

-- ---- ends

-- nodes name nodes of their sheet
target_inside : (k : SheetRecord) (target : Ref) (n : ℕ) → Targets k target → Contains (nodes_of target) n → n < length k.nodes
target_inside k (ToColumn c) n there (i, below, is) = absurd (omega arith)
target_inside k (ToNode m) n there (zero, below, is) = subst (λ (x : ℕ). x < length k.nodes) is there
target_inside k (ToNode m) n there (suc i, below, is) = absurd (omega arith)

input_inside : (k : SheetRecord) (node : Node) (n : ℕ) → InputsHave (Targets k) (Some node) → Contains (inputs_of node) n → n < length k.nodes
input_inside k (Pair op first second) n there c =
    elim (Contains-append_cases (nodes_of first) (nodes_of second) n c)
    [ inl a ↦ target_inside k first n there.0 a | inr b ↦ target_inside k second n there.1 b ]
input_inside k (Card style) n there (i, below, is) = absurd (omega arith)
input_inside k (Shuffle input list) n there c = target_inside k input n there c
input_inside k (Blur input radius) n there c = target_inside k input n there c
input_inside k (Keep input styles) n there c = target_inside k input n there c
input_inside k (Delete input styles) n there c = target_inside k input n there c

named_inside : (k : SheetRecord) (list : List Node) → All (IsGoodNode k) list → (i n : ℕ) → Contains (get_or (map inputs_of list) i []) n → n < length k.nodes
named_inside k [] good i n (j, below, is) = absurd (omega arith)
named_inside k (node ∷ list) good zero n c = input_inside k node n (good 0 node (omega arith)).inputs c
named_inside k (node ∷ list) good (suc i) n c = named_inside k list (λ j d below. good (suc j) d (omega arith)) i n c

sheet_nodes_end : CyclesTold → ChainsTold → ChainsShort → (k : SheetRecord) (at : List ℕ) → All (IsGoodNode k) k.nodes → pass.sheet_node_cycle_fault at k ≡ None
    → (n : ℕ) → n < length k.nodes → NodesEnd k (length k.nodes) (ToNode n)
sheet_nodes_end cycles told short k at good none n below =
    let links_length : length (input_links k) ≡ length k.nodes = length-map k.nodes inputs_of in
    nodes_end k (length k.nodes) n
    (chain_missing told (input_links k) (length k.nodes) n
    (λ chain.
    let fewer = short (input_links k)
    (λ a c named. rw links_length (named_inside k k.nodes good a c named))
    (not_cyclic cycles code.NodeCycle (input_links k) (path_of field.Nodes at) none)
    (length k.nodes) n (rw links_length below) chain in
    omega arith))

past_no_chain : (links : Links) (m a : ℕ) → length links ≤ a → has_chain links (suc m) a ≡ false
unfolding has_chain
past_no_chain links m a past = rw (get_or_past links a [] past) refl

peg_ends : (k : SheetRecord) (at : List ℕ) → pass.sheet_chain_fault at (parent_links k) ≡ None
    → (i : ℕ) → i < length k.pegs → PegsEnd k LONGEST_PEG_CHAIN (Some i)
peg_ends k at none i below =
    let links_length : length (parent_links k) ≡ length k.pegs = length-map k.pegs (λ (peg : PegRecord). option_to_list peg.parent) in
    pegs_end k LONGEST_PEG_CHAIN i (not_long LONGEST_PEG_CHAIN (parent_links k) (path_of field.Pegs at) none i (rw links_length below))

module _ (sheets : List SheetRecord) where
  -- what holds of the nodes of each sheet holds past the sheets, where there is none
  nodes_everywhere : All (λ k. (n : ℕ) → n < length k.nodes → NodesEnd k (length k.nodes) (ToNode n)) sheets
      → (k n : ℕ) → n < length (sheet_at sheets k).nodes → NodesEnd (sheet_at sheets k) (length (sheet_at sheets k).nodes) (ToNode n)
  nodes_everywhere h k n below =
      elim (cases_lt k (length sheets)) [
        | inl inside ↦ h k no_sheet inside n below
        | inr past ↦ absurd (let is = get_or_past sheets k no_sheet past in let none : n < length no_sheet.nodes = subst
            (λ (x : SheetRecord). n < length x.nodes) is below in omega arith)
      ]

  pegs_everywhere : All (λ k. (i : ℕ) → i < length k.pegs → PegsEnd k LONGEST_PEG_CHAIN (Some i)) sheets
      → (k i : ℕ) → i < length (sheet_at sheets k).pegs → PegsEnd (sheet_at sheets k) LONGEST_PEG_CHAIN (Some i)
  pegs_everywhere h k i below =
      elim (cases_lt k (length sheets)) [
        | inl inside ↦ h k no_sheet inside i below
        | inr past ↦ absurd (let is = get_or_past sheets k no_sheet past in let none : i < length no_sheet.pegs = subst
            (λ (x : SheetRecord). i < length x.pegs) is below in omega arith)
      ]

  sheets_everywhere : long_chain_fault DEEPEST_NEST (sheet_links sheets) pass.sheets_at ≡ None → (k : ℕ) → SheetsEnd sheets DEEPEST_NEST k
  sheets_everywhere none k =
      let links = sheet_links sheets in
      elim (cases_lt k (length links)) [
        | inl inside ↦ sheets_end sheets DEEPEST_NEST k (not_long DEEPEST_NEST links pass.sheets_at none k inside)
        | inr past ↦ sheets_end sheets DEEPEST_NEST k (past_no_chain links 15 k past)
      ]

-- ---- the scene

module _ (cycles : CyclesTold) (told : ChainsTold) (short : ChainsShort) (s : SceneRecord) (sizes : pass.size_fault s ≡ None)
    (references : pass.reference_fault s ≡ None) (overlaps : pass.overlap_fault s ≡ None) (node_cycles : pass.node_cycle_fault s ≡ None)
    (long_chains : pass.chain_fault (map parent_links s.sheets) (sheet_links s.sheets) ≡ None) where
  few : (in_list (path_of field.Palettes []) pass.palette_size_fault s.palettes ≡ None) × (in_list pass.sheets_at pass.sheet_size_fault s.sheets ≡ None)
  few = both_none _ _ sizes

  apart : (in_list (path_of field.Palettes []) pass.palette_overlap_fault s.palettes ≡ None)
      × (or_else (file_fault s.levels) (in_list pass.sheets_at pass.sheet_overlap_fault s.sheets) ≡ None)
  apart = both_none _ _ overlaps

  files_apart : (file_fault s.levels ≡ None) × (in_list pass.sheets_at pass.sheet_overlap_fault s.sheets ≡ None)
  files_apart = both_none _ _ apart.1

  short_chains : (in_list pass.sheets_at pass.sheet_chain_fault (map parent_links s.sheets) ≡ None)
      × (long_chain_fault DEEPEST_NEST (sheet_links s.sheets) pass.sheets_at ≡ None)
  short_chains = both_none _ _ long_chains

  -- what is left of the references after those of the camera, the palettes, the levels and the list of sheets
  abbrev after_levels : Finding
  after_levels =
      or_else (unless code.NoSuchReference (path_of field.Sheets []) (ltb 0 (length s.sheets)))
      (in_list pass.sheets_at (pass.sheet_reference_fault s) s.sheets)

  abbrev after_palettes : Finding
  after_palettes = or_else (in_list (path_of field.Levels []) (level_reference_fault s) s.levels) after_levels

  of_camera : (pass.camera_reference_fault s ≡ None)
      × (or_else (in_list (path_of field.Palettes []) pass.palette_reference_fault s.palettes) after_palettes ≡ None)
  of_camera = both_none (pass.camera_reference_fault s) _ references

  of_palettes : (in_list (path_of field.Palettes []) pass.palette_reference_fault s.palettes ≡ None) × (after_palettes ≡ None)
  of_palettes = both_none _ _ of_camera.1

  of_levels : (in_list (path_of field.Levels []) (level_reference_fault s) s.levels ≡ None) × (after_levels ≡ None)
  of_levels = both_none (in_list (path_of field.Levels []) (level_reference_fault s) s.levels) after_levels of_palettes.1

  of_sheets : (unless code.NoSuchReference (path_of field.Sheets []) (ltb 0 (length s.sheets)) ≡ None)
      × (in_list pass.sheets_at (pass.sheet_reference_fault s) s.sheets ≡ None)
  of_sheets = both_none (unless code.NoSuchReference (path_of field.Sheets []) (ltb 0 (length s.sheets))) _ of_levels.1

  all_good_sheets : All (IsGoodSheet s) s.sheets
  all_good_sheets k d below =
      good_sheet s (get_or s.sheets k d) (index_at pass.sheets_at k) (index_at pass.sheets_at k) (index_at pass.sheets_at k)
      (at_index pass.sheet_size_fault pass.sheets_at s.sheets few.1 k d below)
      (at_index (pass.sheet_reference_fault s) pass.sheets_at s.sheets of_sheets.1 k d below)
      (at_index pass.sheet_overlap_fault pass.sheets_at s.sheets files_apart.1 k d below)

  all_good_palettes : All IsGoodPalette s.palettes
  all_good_palettes k d below =
      let at = path_of field.Palettes [] in
      good_palette (get_or s.palettes k d) (index_at at k) (index_at at k) (index_at at k)
      (at_index pass.palette_size_fault at s.palettes few.0 k d below)
      (at_index pass.palette_reference_fault at s.palettes of_palettes.0 k d below)
      (at_index pass.palette_overlap_fault at s.palettes apart.0 k d below)

  nodes_all_end : All (λ k. (n : ℕ) → n < length k.nodes → NodesEnd k (length k.nodes) (ToNode n)) s.sheets
  nodes_all_end k d below =
      sheet_nodes_end cycles told short (get_or s.sheets k d) (index_at pass.sheets_at k) (all_good_sheets k d below).nodes
      (at_index pass.sheet_node_cycle_fault pass.sheets_at s.sheets node_cycles k d below)

  pegs_all_end : All (λ k. (i : ℕ) → i < length k.pegs → PegsEnd k LONGEST_PEG_CHAIN (Some i)) s.sheets
  pegs_all_end k d below =
      let links_length : length (map parent_links s.sheets) ≡ length s.sheets = length-map s.sheets parent_links in
      peg_ends (get_or s.sheets k d) (index_at pass.sheets_at k)
      (subst (λ (links : Links). pass.sheet_chain_fault (index_at pass.sheets_at k) links ≡ None) (get_or-map parent_links s.sheets k d)
      (at_index pass.sheet_chain_fault pass.sheets_at (map parent_links s.sheets) short_chains.0 k (parent_links d) (omega arith)))

  all_end : AllEnd s.sheets
  all_end =
      record {
        nodes = nodes_everywhere s.sheets nodes_all_end;
        sheets_end = sheets_everywhere s.sheets short_chains.1;
        pegs = pegs_everywhere s.sheets pegs_all_end;
      }

  good : IsInRange s → IsGood s
  good ranges =
      record {
        ranges = ranges;
        camera = names_there (path_of field.Peg (path_of field.Camera [])) (sheet_at s.sheets 0).pegs s.camera.peg of_camera.0;
        palettes = all_good_palettes;
        levels = each_at_all (level_reference_fault s) (λ level. HasPalette s level.kind) (level_palette s) (path_of field.Levels []) s.levels of_levels.0;
        files = files_pairs s.levels files_apart.0;
        first_sheet = is_below _ _ _ _ of_sheets.0;
        sheets = all_good_sheets;
        ends = all_end;
      }

-- a scene in which no pass finds a fault is good, and its walks end whatever its values
pub good_scene : CyclesTold → ChainsTold → ChainsShort → (s : SceneRecord) → pass.first_fault s ≡ None → (IsInRange s → IsGood s) × AllEnd s.sheets
good_scene cycles told short s none =
    let sizes = both_none (pass.size_fault s) _ none in
    let references = both_none (pass.reference_fault s) _ sizes.1 in
    let overlaps = both_none (pass.overlap_fault s) _ references.1 in
    let pegs = both_none (pass.peg_cycle_fault (map parent_links s.sheets)) _ overlaps.1 in
    let nodes = both_none (pass.node_cycle_fault s) _ pegs.1 in
    let sheets = both_none (pass.sheet_cycle_fault (sheet_links s.sheets)) _ nodes.1 in (
      good cycles told short s sizes.0 references.0 overlaps.0 nodes.0 sheets.1,
      all_end cycles told short s sizes.0 references.0 overlaps.0 nodes.0 sheets.1,
    )
