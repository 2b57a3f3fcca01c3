-- Lemmas on aliases that are live after a section
use Rattle.std.proofs.Common.{◌≡◌, ◌<◌, ◌≤◌, ◌+◌, ◌/◌, ◌%◌, ℕ, true, ◌↔◌, eqb, leb, ltb, List, [], ◌∷◌, All, Contains, length, refl, sym, ap, ◌∙◌, arith, zero-add}
use Rattle.std.specs.List.{range_with_len, list_any}
use Rattle.std.proofs.lemmas.Bool.{and_parts, and_from, eqb-true, eq-eqb, leb-true, le-leb, ltb-true, lt-ltb}
use Rattle.std.proofs.lemmas.List.Elements.{All-append, All-cons, All-nil, All-contains}
use Rattle.std.proofs.lemmas.List.Folds.{Any-from_list_any, list_any_at}
use Rattle.std.proofs.lemmas.List.FromFn.{length-range_with_len, get_or-range_with_len}
use Rattle.std.proofs.lemmas.Nat.{div_below}
use Rattle.xs_base.specs.declared.limits.TheConstants.{SECTION_ROWS}
use Rattle.xs_plan.specs.declared.job.Edge.{Edge}
use Rattle.xs_plan.specs.declared.job.Reader.TheVariants.{Port, Root}
use Rattle.xs_plan.specs.Record.{Entry, PlanRecord, rows_in}
use Rattle.xs_plan.specs.Reads.{edge, edges_from, port_edges, root_edges, edges}
use Rattle.xs_plan.specs.Sections.{first_section, sections_in, section_of, reads_after, is_live_after, live_after}
use Rattle.xs_plan.specs.Valid.{IsPlan}
use Rattle.xs_plan.proofs.FirstRowLemmas.{first_row-there}
use Rattle.xs_plan.proofs.HeldLemmas.{filter-from, filter-to}

abbrev ReadLater : PlanRecord → ℕ → ℕ → Type 0
ReadLater p s k = (e : Edge) × Contains (edges p) e × (e.source ≡ k) × (s < section_of p e.reader)

abbrev IsLive : PlanRecord → ℕ → ℕ → Type 0
IsLive p s k = (k < length p.entries) × (first_section p k ≤ s) × ReadLater p s k

live-is : (p : PlanRecord) (s k : ℕ) → Contains (live_after p s) k → IsLive p s k
live-is p s k has =
    let found = filter-from (is_live_after p s) (range_with_len 0 (length p.entries)) k has in
    let number = found.0 in
    let lt : number.0 < length p.entries = omega (arith, number.1, length-range_with_len 0 (length p.entries)) in
    let same : number.0 ≡ k = sym (get_or-range_with_len 0 (length p.entries) number.0 k lt ∙ zero-add number.0) ∙ number.2 in
    let parts = and_parts (leb (first_section p k) s) (list_any (reads_after p s k) (edges p)) found.1 in
    let read = Any-from_list_any (reads_after p s k) (edges p) parts.1 in
    let tests = and_parts (eqb read.1.source k) (ltb s (section_of p read.1.reader)) read.4 in (
      omega arith,
      leb-true (first_section p k) s parts.0,
      (read.1, (read.0, read.2, read.3), eqb-true read.1.source k tests.0, ltb-true s (section_of p read.1.reader) tests.1),
    )

is-live : (p : PlanRecord) (s k : ℕ) → IsLive p s k → Contains (live_after p s) k
is-live p s k is =
    let later = is.2 in
    let e = later.0 in
    let at = later.1 in
    let tests : reads_after p s k e ≡ true =
    and_from (eqb e.source k) (ltb s (section_of p e.reader)) (eq-eqb e.source k later.2) (lt-ltb s (section_of p e.reader) later.3) in
    let read : list_any (reads_after p s k) (edges p) ≡ true =
    list_any_at (reads_after p s k) (edges p) at.0 e at.1 (ap (reads_after p s k) at.2 ∙ tests) in
    filter-to (is_live_after p s) (range_with_len 0 (length p.entries)) k k (omega (arith, is.0, length-range_with_len 0 (length p.entries)))
    (get_or-range_with_len 0 (length p.entries) k k is.0 ∙ zero-add k)
    (and_from (leb (first_section p k) s) (list_any (reads_after p s k) (edges p)) (le-leb (first_section p k) s is.1) read)

pub live-read_later : (p : PlanRecord) (s k : ℕ) → Contains (live_after p s) k ↔ IsLive p s k
live-read_later p s k = (live-is p s k, is-live p s k)

-- ---- each read is in a section

abbrev InSections : PlanRecord → Edge → Type 0
InSections p e = section_of p e.reader < sections_in p

edges_from-in : (p : PlanRecord) (k port : ℕ) (inputs : List ℕ) → first_section p k < sections_in p → All (InSections p) (edges_from k port inputs)
edges_from-in p k port [] below = All-nil (InSections p)
edges_from-in p k port (source ∷ inputs) below =
    All-cons (InSections p) (edge source (Port k port)) (edges_from k (port + 1) inputs) below (edges_from-in p k (port + 1) inputs below)

port_edges-in :
    (p : PlanRecord) (j : ℕ) (entries : List Entry) → ((k : ℕ) → k < j + length entries → first_section p k < sections_in p)
    → All (InSections p) (port_edges j entries)
port_edges-in p j [] below = All-nil (InSections p)
port_edges-in p j (e ∷ entries) below =
    All-append (InSections p) (edges_from j 0 e.inputs) (port_edges (j + 1) entries)
    (edges_from-in p j 0 e.inputs (below j (omega arith))) (port_edges-in p (j + 1) entries (λ k lt. below k (omega arith)))

root_edges-in :
    (p : PlanRecord) (tiles place : ℕ) (roots : List ℕ)
    → ((q : ℕ) → q < place + length roots → (q / tiles) / SECTION_ROWS < sections_in p)
    → All (InSections p) (root_edges tiles place roots)
root_edges-in p tiles place [] below = All-nil (InSections p)
root_edges-in p tiles place (source ∷ roots) below =
    All-cons (InSections p) (edge source (Root (place / tiles) (place % tiles))) (root_edges tiles (place + 1) roots)
    (below place (omega arith)) (root_edges-in p tiles (place + 1) roots (λ q lt. below q (omega arith)))

edges-in : (p : PlanRecord) → IsPlan p → All (InSections p) (edges p)
unfolding edges
edges-in p is =
    All-append (InSections p) (port_edges 0 p.entries) (root_edges (length p.tiles) 0 p.roots)
    (port_edges-in p 0 p.entries
    (λ k lt. let row = first_row-there p is k (omega arith) in omega arith))
    (root_edges-in p (length p.tiles) 0 p.roots
    (λ q lt.
    let row : q / length p.tiles < rows_in p = div_below q (length p.tiles) (rows_in p) is.few_tiles.0 (omega (arith, is.whole)) in
    omega arith))

nil-from_none : (xs : List ℕ) → ((x : ℕ) → Contains xs x → ⊥) → xs ≡ []
nil-from_none [] none = refl
nil-from_none (x ∷ xs) none = absurd (none x (0, omega arith, refl))

pub none_live-at_end : (p : PlanRecord) → IsPlan p → (s : ℕ) → sections_in p ≤ s + 1 → live_after p s ≡ []
none_live-at_end p is s last =
    nil-from_none (live_after p s)
    (λ k has.
    let later = (live-is p s k has).2 in
    let within = All-contains (InSections p) (edges p) later.0 (edges-in p is) later.1 in
    omega (arith, later.3))
