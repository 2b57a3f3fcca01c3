-- Lemmas on the reads of a plan and their sources
use Rattle.std.proofs.Common.{◌≡◌, ◌<◌, ◌≤◌, ◌+◌, ◌*◌, ◌/◌, ◌%◌, ℕ, zero, suc, List, [], ◌∷◌, ◌++◌, Some, All, length, take, map, slice_get, slice_index, get_or, refl, sym, ap, ap₂, ◌∙◌, arith}
use Rattle.std.proofs.lemmas.List.{map-append, length-take-le, take_all, take_more, get_or_default}
use Rattle.std.proofs.lemmas.List.Elements.{All-append, All-weaker, All-nil}
use Rattle.std.proofs.lemmas.Nat.{div-mul-add, div-add-mod', div_below, mul-add-lt}
use Rattle.std.proofs.lemmas.Option.{slice_get-get_or}
use Rattle.xs_plan.specs.declared.job.Edge.{Edge}
use Rattle.xs_plan.specs.declared.job.Reader.TheVariants.{Port, Root}
use Rattle.xs_plan.specs.Record.{Entry, PlanRecord, entry_at, no_entry, root_at, root_place, rows_in}
use Rattle.xs_plan.specs.Reads.{port_sources, sources, first_read, root_read_of, edge, edges_from, port_edges, root_edges, edges}
use Rattle.xs_plan.specs.Valid.{IsPlan, IsInput}
use Rattle.xs_plan.proofs.ReadLemmas.{slice_get-append_left, slice_get-append_right, length-port_edges, port_edges-at, root_edges-at, reads_before-within, port_sources-push}

-- ---- sources

sources-edges_from : (k port : ℕ) (inputs : List ℕ) → map (λ e. e.source) (edges_from k port inputs) ≡ inputs
sources-edges_from k port [] = refl
sources-edges_from k port (source ∷ inputs) = ap (λ l. source ∷ l) (sources-edges_from k (port + 1) inputs)

sources-port_edges : (k : ℕ) (entries : List Entry) → map (λ e. e.source) (port_edges k entries) ≡ port_sources entries
sources-port_edges k [] = refl
sources-port_edges k (e ∷ entries) =
    map-append (λ (e : Edge). e.source) (edges_from k 0 e.inputs) (port_edges (k + 1) entries)
    ∙ ap₂ (λ l m. l ++ m) (sources-edges_from k 0 e.inputs) (sources-port_edges (k + 1) entries)

sources-root_edges : (tiles place : ℕ) (roots : List ℕ) → map (λ e. e.source) (root_edges tiles place roots) ≡ roots
sources-root_edges tiles place [] = refl
sources-root_edges tiles place (source ∷ roots) = ap (λ l. source ∷ l) (sources-root_edges tiles (place + 1) roots)

pub sources-edges : (p : PlanRecord) → map (λ e. e.source) (edges p) ≡ sources p
unfolding edges
sources-edges p =
    map-append (λ (e : Edge). e.source) (port_edges 0 p.entries) (root_edges (length p.tiles) 0 p.roots)
    ∙ ap₂ (λ l m. l ++ m) (sources-port_edges 0 p.entries) (sources-root_edges (length p.tiles) 0 p.roots)

-- ---- the numbers of reads

pub edges-port :
    (p : PlanRecord) (k port : ℕ) → k < length p.entries → port < length (entry_at p.entries k).inputs
    → slice_get (edges p) (first_read p k + port) ≡ Some (edge (slice_index (entry_at p.entries k).inputs port) (Port k port))
unfolding edges
edges-port p k port lt has =
    let short : first_read p k + port < length (port_edges 0 p.entries) =
    omega (arith, length-port_edges 0 p.entries, reads_before-within p.entries k lt) in
    slice_get-append_left (port_edges 0 p.entries) (root_edges (length p.tiles) 0 p.roots) (first_read p k + port) short
    ∙ port_edges-at p.entries k port lt has

pub edges-root :
    (p : PlanRecord) → IsPlan p → (row tile : ℕ) → row < rows_in p → tile < length p.tiles
    → slice_get (edges p) (root_read_of p row tile) ≡ Some (edge (root_at p row tile) (Root row tile))
unfolding edges
edges-root p is row tile row_there tile_there =
    let tiles = length p.tiles in
    let place = root_place p row tile in
    let ports = port_edges 0 p.entries in
    let there : place < length p.roots = omega (arith, is.whole, mul-add-lt row tiles tile (rows_in p) row_there tile_there) in
    let at_row : place / tiles ≡ row = div-mul-add row tiles tile tile_there in
    let product = ap (λ r. r * tiles) at_row in
    let at_tile : place % tiles ≡ tile = omega (arith, div-add-mod' place tiles) in
    ap (λ n. slice_get (ports ++ root_edges tiles 0 p.roots) (n + place)) (sym (length-port_edges 0 p.entries))
    ∙ slice_get-append_right ports (root_edges tiles 0 p.roots) place
    ∙ root_edges-at tiles p.roots place there
    ∙ ap₂ (λ r t. Some (edge (root_at p row tile) (Root r t))) at_row at_tile

-- ---- each source is there

-- the inputs of the first aliases are aliases
inputs-there :
    (p : PlanRecord) → IsPlan p → (k : ℕ) → k ≤ length p.entries
    → All (λ source. source < length p.entries) (port_sources (take k p.entries))
inputs-there p is zero le = All-nil (λ source. source < length p.entries)
inputs-there p is (suc k) le =
    let entry = is.entries k (entry_at p.entries k) (slice_get-get_or p.entries k no_entry (omega arith)) in
    let before = length-take-le k p.entries (omega arith) in
    let here : All (λ source. source < length p.entries) (entry_at p.entries k).inputs =
    All-weaker (IsInput (take k p.entries) (entry_at p.entries k)) (λ source. source < length p.entries)
    (λ source input. omega (arith, input.there)) (entry_at p.entries k).inputs entry.inputs in
    let parts : port_sources (take (k + 1) p.entries) ≡ port_sources (take k p.entries) ++ (entry_at p.entries k).inputs =
    ap port_sources (take_more p.entries k no_entry (omega arith)) ∙ port_sources-push (take k p.entries) (entry_at p.entries k) in
    let next : suc k ≡ k + 1 = omega arith in
    rw (next, parts)
    (All-append (λ source. source < length p.entries) (port_sources (take k p.entries)) (entry_at p.entries k).inputs
    (inputs-there p is k (omega arith)) here)

roots-there : (p : PlanRecord) → IsPlan p → All (λ source. source < length p.entries) p.roots
roots-there p is place d lt =
    let tiles = length p.tiles in
    let row = place / tiles in
    let some = is.few_tiles.0 in
    let row_there : row < rows_in p = div_below place tiles (rows_in p) some (omega (arith, is.whole)) in
    let tile_there : place % tiles < tiles = omega arith in
    let root = is.roots row (place % tiles) row_there tile_there in
    let at : row * tiles + place % tiles ≡ place = div-add-mod' place tiles in
    let here : root_at p row (place % tiles) ≡ get_or p.roots place d =
    ap (λ n. get_or p.roots n 0) at ∙ get_or_default p.roots place 0 d lt in
    let end = is.ends.within row 0 row_there in
    omega (arith, root.there)

pub sources-there : (p : PlanRecord) → IsPlan p → All (λ source. source < length p.entries) (sources p)
sources-there p is =
    let all = take_all (length p.entries) p.entries (omega arith) in
    let ports = rw all at (inputs-there p is (length p.entries) (omega arith)) in
    All-append (λ source. source < length p.entries) (port_sources p.entries) p.roots ports (roots-there p is)
