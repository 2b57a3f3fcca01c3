use Rattle.std.proofs.Common.{◌≡◌, ◌<◌, ℕ, zero, suc, Bool, true, false, ◌||◌, Option, Some, None, List, [], ◌∷◌, Contains, length, map, get_or, flat_map, slice_get, refl, sym, ◌∙◌, subst, inl, inr, arith}
use Rattle.std.proofs.Math.ListN.{get_or-map}
use Rattle.std.proofs.lemmas.Bool.{false≢true, cases_Bool}
use Rattle.std.proofs.lemmas.List.Elements.{Contains-append_left, Contains-append_right}
use Rattle.std.proofs.lemmas.List.Folds.{list_any-from_Any}
use Rattle.std.specs.List.{list_any}
use Rattle.std.specs.Option.{option_to_list}
use Rattle.xs_scene.specs.declared.column.Shown.{Shown}
use Rattle.xs_scene.specs.declared.column.Shown.TheVariants.{Drawing, Sheet}
use Rattle.xs_scene.specs.declared.node.Ref.{Ref}
use Rattle.xs_scene.specs.declared.node.Ref.TheVariants.{Column as ToColumn, Node as ToNode}
use Rattle.xs_scene.specs.declared.node.Node.{Node}
use Rattle.xs_scene.specs.declared.node.Node.TheVariants.{Pair, Card, Shuffle, Blur, Keep, Delete}
use Rattle.xs_scene.specs.Records.{SheetRecord, ColumnRecord, ExposureRecord, PegRecord}
use Rattle.xs_meaning.specs.Places.{no_peg, peg_at}
use Rattle.xs_meaning.specs.Walk.{no_sheet, sheet_at}
use Rattle.xs_meaning.specs.Inputs.{nodes_of, inputs_of}
use Rattle.xs_meaning.specs.Ends.{InputsHave, NodesEnd, ShownHas, SheetsEnd, PegsEnd}
use Rattle.xs_graph.specs.Paths.{successors, has_chain}
use Rattle.xs_check.specs.Links.{parent_links, input_links, sheet_in, sheets_in, sheet_links}

-- ---- chains that end

or_false : (b c : Bool) → (b || c) ≡ false → b ≡ false
or_false true c h = absurd (false≢true (sym h))
or_false false c h = refl

none_at : (p : ℕ → Bool) (xs : List ℕ) (x : ℕ) → list_any p xs ≡ false → Contains xs x → p x ≡ false
none_at p xs x none (k, below, is) =
    elim (cases_Bool (p x)) [
      | inl found ↦ absurd (false≢true (sym none ∙ list_any-from_Any p xs (k, x, below, is, found)))
      | inr h ↦ h
    ]

parent_ends : (k : SheetRecord) (m : ℕ) (peg : Option ℕ) → ((i : ℕ) → has_chain (parent_links k) m i ≡ false → PegsEnd k m (Some i))
    → list_any (has_chain (parent_links k) m) (option_to_list peg) ≡ false → PegsEnd k m peg
unfolding PegsEnd
parent_ends k m None rest h = tt
parent_ends k m (Some i) rest h = rest i (or_false (has_chain (parent_links k) m i) false h)

parent_named : (k : SheetRecord) (i : ℕ) → successors (parent_links k) i ≡ option_to_list (peg_at k i).parent
parent_named k i = get_or-map (λ (peg : PegRecord). option_to_list peg.parent) k.pegs i no_peg

pub pegs_end : (k : SheetRecord) (m i : ℕ) → has_chain (parent_links k) m i ≡ false → PegsEnd k m (Some i)
unfolding has_chain PegsEnd
pegs_end k zero i h = absurd (false≢true (sym h))
pegs_end k (suc m) i h =
    parent_ends k m (peg_at k i).parent (pegs_end k m)
    (subst (λ (l : List ℕ). list_any (has_chain (parent_links k) m) l ≡ false) (parent_named k i) h)

-- ---- sheets

contains_flat : {A : Type 0} (f : A → List ℕ) (xs : List A) (i : ℕ) (d : A) (y : ℕ) → i < length xs → Contains (f (get_or xs i d)) y
    → Contains (flat_map f xs) y
contains_flat f [] i d y below c = absurd (omega arith)
contains_flat f (x ∷ xs) zero d y below c = Contains-append_left (f x) (flat_map f xs) y c
contains_flat f (x ∷ xs) (suc i) d y below c =
    Contains-append_right (f x) (flat_map f xs) y (contains_flat f xs i d y (omega arith) c)

shown_has : (P : ℕ → Type 0) (shown : Shown) → ((sheet : ℕ) → Contains (sheet_in shown) sheet → P sheet) → ShownHas P shown
shown_has P (Drawing level index) h = tt
shown_has P (Sheet sheet start) h = h sheet (0, omega arith, refl)

sheets_named : (sheets : List SheetRecord) (k : ℕ) → successors (sheet_links sheets) k ≡ sheets_in (sheet_at sheets k)
sheets_named sheets k = get_or-map sheets_in sheets k no_sheet

pub sheets_end : (sheets : List SheetRecord) (d k : ℕ) → has_chain (sheet_links sheets) d k ≡ false → SheetsEnd sheets d k
unfolding has_chain SheetsEnd
sheets_end sheets zero k h = absurd (false≢true (sym h))
sheets_end sheets (suc d) k h =
    λ i no_column below j no_cell inside.
    let column = get_or (sheet_at sheets k).columns i no_column in
    shown_has (SheetsEnd sheets d) (get_or column.cells j no_cell).shown
    (λ sheet named.
    sheets_end sheets d sheet
    (none_at (has_chain (sheet_links sheets) d) (sheets_in (sheet_at sheets k)) sheet
    (subst (λ (l : List ℕ). list_any (has_chain (sheet_links sheets) d) l ≡ false) (sheets_named sheets k) h)
    (contains_flat (λ (c : ColumnRecord). flat_map (λ e. sheet_in e.shown) c.cells) (sheet_at sheets k).columns i no_column sheet below
    (contains_flat (λ (e : ExposureRecord). sheet_in e.shown) column.cells j no_cell sheet inside named))))

-- ---- nodes

ref_has : (P : Ref → Type 0) (target : Ref) → ((c : ℕ) → P (ToColumn c)) → ((n : ℕ) → Contains (nodes_of target) n → P (ToNode n)) → P target
ref_has P (ToColumn c) columns nodes = columns c
ref_has P (ToNode n) columns nodes = nodes n (0, omega arith, refl)

inputs_have : (P : Ref → Type 0) (node : Node) → ((c : ℕ) → P (ToColumn c)) → ((n : ℕ) → Contains (inputs_of node) n → P (ToNode n)) → InputsHave P (Some node)
inputs_have P (Pair op first second) columns nodes = (
  ref_has P first columns (λ n c. nodes n (Contains-append_left (nodes_of first) (nodes_of second) n c)),
  ref_has P second columns (λ n c. nodes n (Contains-append_right (nodes_of first) (nodes_of second) n c)),
)
inputs_have P (Card style) columns nodes = tt
inputs_have P (Shuffle input list) columns nodes = ref_has P input columns nodes
inputs_have P (Blur input radius) columns nodes = ref_has P input columns nodes
inputs_have P (Keep input styles) columns nodes = ref_has P input columns nodes
inputs_have P (Delete input styles) columns nodes = ref_has P input columns nodes

inputs_at : (P : Ref → Type 0) (list : List Node) (i : ℕ) → ((c : ℕ) → P (ToColumn c))
    → ((n : ℕ) → Contains (get_or (map inputs_of list) i []) n → P (ToNode n)) → InputsHave P (slice_get list i)
inputs_at P [] i columns nodes = tt
inputs_at P (node ∷ list) zero columns nodes = inputs_have P node columns nodes
inputs_at P (node ∷ list) (suc i) columns nodes = inputs_at P list i columns nodes

columns_end : (k : SheetRecord) (m c : ℕ) → NodesEnd k m (ToColumn c)
unfolding NodesEnd
columns_end k zero c = tt
columns_end k (suc m) c = tt

pub nodes_end : (k : SheetRecord) (m n : ℕ) → has_chain (input_links k) m n ≡ false → NodesEnd k m (ToNode n)
unfolding has_chain NodesEnd
nodes_end k zero n h = absurd (false≢true (sym h))
nodes_end k (suc m) n h =
    inputs_at (NodesEnd k m) k.nodes n (columns_end k m)
    (λ i named. nodes_end k m i (none_at (has_chain (input_links k) m) (successors (input_links k) n) i h named))
