-- Lemmas on what the number of a read tells
use Rattle.std.proofs.Common.{◌≡◌, ◌<◌, ◌≤◌, ◌+◌, ◌-◌, ◌/◌, ◌%◌, ℕ, zero, suc, cond, Some, None, List, [], ◌∷◌, ◌++◌, length, take, slice_get, slice_index, sym, ap, subst, ◌∙◌, ◌⊎◌, inl, inr, arith}
use Rattle.std.proofs.lemmas.Bool.{cases_lt, lt-ltb}
use Rattle.std.proofs.lemmas.Grind.{flat_map-append}
use Rattle.std.proofs.lemmas.List.{append-nil, length-append, take_all, take_more}
use Rattle.std.proofs.lemmas.Nat.{div-add-mod', div_below}
use Rattle.std.proofs.lemmas.Option.{get_or_from_slice_get}
use Rattle.xs_plan.specs.declared.job.Edge.{Edge}
use Rattle.xs_plan.specs.declared.job.Reader.TheVariants.{Port, Root}
use Rattle.xs_plan.specs.Record.{Entry, PlanRecord, entry_at, no_entry, root_at, rows_in}
use Rattle.xs_plan.specs.Reads.{port_sources, reads_in, first_read, port_read_of, root_read_of, edge, edges}
use Rattle.xs_plan.specs.Valid.{IsPlan}
use Rattle.xs_core.specs.States.{reader_at}

-- the read of an alias at a port
pub record IsPort (p : PlanRecord) (e : ℕ) : Type 0 where
  pub alias : ℕ
  pub port : ℕ
  pub there : alias < length p.entries
  pub number : port_read_of p alias port ≡ Some e
  pub reader : reader_at p e ≡ Port alias port

-- the read of a row's tile
pub record IsRoot (p : PlanRecord) (e : ℕ) : Type 0 where
  pub row : ℕ
  pub tile : ℕ
  pub row_there : row < rows_in p
  pub tile_there : tile < length p.tiles
  pub number : e ≡ root_read_of p row tile
  pub reader : reader_at p e ≡ Root row tile

abbrev pub TellsPorts : PlanRecord → Type 0
TellsPorts p = (k port : ℕ) → k < length p.entries → port < length (entry_at p.entries k).inputs
    → slice_get (edges p) (first_read p k + port) ≡ Some (edge (slice_index (entry_at p.entries k).inputs port) (Port k port))

abbrev pub TellsRoots : PlanRecord → Type 0
TellsRoots p = (row tile : ℕ) → row < rows_in p → tile < length p.tiles
    → slice_get (edges p) (root_read_of p row tile) ≡ Some (edge (root_at p row tile) (Root row tile))

-- the place of a read among those of the first aliases
record IsAmong (p : PlanRecord) (e : ℕ) : Type 0 where
  alias : ℕ
  port : ℕ
  there : alias < length p.entries
  has : port < length (entry_at p.entries alias).inputs
  is : first_read p alias + port ≡ e

among : (p : PlanRecord) (n e : ℕ) → n ≤ length p.entries → e < length (port_sources (take n p.entries)) → IsAmong p e
among p zero e few less = absurd (omega (arith, less))
among p (suc n) e few less =
    let entries = p.entries in
    let next : suc n ≡ n + 1 = omega arith in
    let parts : port_sources (take (suc n) entries) ≡ port_sources (take n entries) ++ (entry_at entries n).inputs =
    ap (λ i. port_sources (take i entries)) next ∙ ap port_sources (take_more entries n no_entry (omega arith))
    ∙ flat_map-append (λ (x : Entry). x.inputs) (take n entries) (entry_at entries n ∷ [])
    ∙ ap (λ l. port_sources (take n entries) ++ l) (append-nil (entry_at entries n).inputs) in
    let long = ap (λ (l : List ℕ). length l) parts ∙ length-append (port_sources (take n entries)) (entry_at entries n).inputs in
    elim (cases_lt e (first_read p n)) [
      | inl before ↦ among p n e (omega arith) before
      | inr after ↦ record {
        alias = n;
        port = e - first_read p n;
        there = omega arith;
        has = omega (arith, long, less, after);
        is = omega (arith, after);
      }
    ]

reader_of : (p : PlanRecord) (e : ℕ) (x : Edge) → slice_get (edges p) e ≡ Some x → reader_at p e ≡ x.reader
reader_of p e x at = ap (λ (e : Edge). e.reader) (get_or_from_slice_get (edges p) e x (edge 0 (Root 0 0)) at)

pub root_reader : (p : PlanRecord) → TellsRoots p → (row tile : ℕ) → row < rows_in p → tile < length p.tiles
    → reader_at p (root_read_of p row tile) ≡ Root row tile
root_reader p roots row tile row_there tile_there =
    reader_of p (root_read_of p row tile) (edge (root_at p row tile) (Root row tile)) (roots row tile row_there tile_there)

port_of : (p : PlanRecord) (e : ℕ) → TellsPorts p → IsAmong p e → IsPort p e
port_of p e ports at = record {
  alias = at.alias;
  port = at.port;
  there = at.there;
  number = ap (λ b. cond b (Some (first_read p at.alias + at.port)) None)
      (lt-ltb at.port (length (entry_at p.entries at.alias).inputs) at.has) ∙ ap Some at.is;
  reader = ap (λ n. reader_at p n) (sym at.is)
      ∙ reader_of p (first_read p at.alias + at.port) (edge (slice_index (entry_at p.entries at.alias).inputs at.port) (Port at.alias at.port))
      (ports at.alias at.port at.there at.has);
}

root_of : (p : PlanRecord) (place : ℕ) → IsPlan p → TellsRoots p → place < length p.roots → IsRoot p (length (port_sources p.entries) + place)
root_of p place valid roots less =
    let tiles = length p.tiles in
    let row_there : place / tiles < rows_in p = div_below place tiles (rows_in p) valid.few_tiles.0 (omega (arith, valid.whole, less)) in
    let tile_there : place % tiles < tiles = let some = valid.few_tiles.0 in omega arith in
    let number : length (port_sources p.entries) + place ≡ root_read_of p (place / tiles) (place % tiles) =
    ap (λ n. length (port_sources p.entries) + n) (sym (div-add-mod' place tiles)) in
    record {
      row = place / tiles;
      tile = place % tiles;
      row_there = row_there;
      tile_there = tile_there;
      number = number;
      reader = ap (λ n. reader_at p n) number ∙ root_reader p roots (place / tiles) (place % tiles) row_there tile_there;
    }

-- a read is one at a port or one of a row's tile
pub kind_of : (p : PlanRecord) (e : ℕ) → IsPlan p → TellsPorts p → TellsRoots p → e < reads_in p → IsPort p e ⊎ IsRoot p e
kind_of p e valid ports roots within =
    let all = length-append (port_sources p.entries) p.roots in
    let whole = take_all (length p.entries) p.entries (omega arith) in
    elim (cases_lt e (length (port_sources p.entries))) [
      | inl before ↦
          inl (port_of p e ports (among p (length p.entries) e (omega arith)
          (subst (λ (l : List Entry). e < length (port_sources l)) (sym whole) before)))
      | inr after ↦
          let at : length (port_sources p.entries) + (e - length (port_sources p.entries)) ≡ e = omega (arith, after) in
          inr (subst (IsRoot p) at (root_of p (e - length (port_sources p.entries)) valid roots (omega (arith, all, within, after))))
    ]
