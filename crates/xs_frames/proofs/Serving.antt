-- The reads of a row's tiles, one after another
use Rattle.std.proofs.Common.{◌≡◌, ◌<◌, ◌≤◌, ◌↔◌, ℕ, zero, suc, ◌+◌, cond, ◌==◌, Some, List, [], ◌∷◌, ◌++◌, length, map, get_or, refl, sym, ap, subst, ◌∙◌, append_assoc, zero-add, inl, inr, arith}
use Rattle.std.specs.Prelude.{slice_get}
use Rattle.std.proofs.Math.ListN.{get_or-map}
use Rattle.std.proofs.Math.Numerals.{suc-eq-add-one}
use Rattle.std.proofs.lemmas.Bool.{cases_eq, cases_lt, eq-eqb, ne_eqb}
use Rattle.std.proofs.lemmas.List.{append-nil, length-map}
use Rattle.std.proofs.lemmas.List.FromFn.{map-range_with_len_more}
use Rattle.std.proofs.lemmas.List.Sums.{sum_by-append}
use Rattle.std.proofs.lemmas.Option.{get_or_from_slice_get, slice_get_within}
use Rattle.xs_plan.specs.declared.job.Edge.{Edge}
use Rattle.xs_plan.specs.declared.job.Reader.{Reader}
use Rattle.xs_plan.specs.declared.job.Reader.TheVariants.{Root}
use Rattle.xs_plan.specs.Record.{PlanRecord}
use Rattle.xs_plan.specs.Reads.{edge, edges, sources, reads_in, root_read_of}
use Rattle.xs_core.specs.States.{source_at, reader_at}
use Rattle.xs_core.specs.Views.{Signed, signed, DeskView, entries, Knows, IsMine, MayRead}
use Rattle.xs_core.specs.Calls.{Adds, Stays}
use Rattle.xs_frames.specs.Rows.{root_reads, MayGather, Serves, ServesSome}

-- ---- a read by its number

pub read_within :
    (p : PlanRecord) (e : ℕ) (x : Edge) → map (λ (e : Edge). e.source) (edges p) ≡ sources p → slice_get (edges p) e ≡ Some x → e < reads_in p
read_within p e x are at =
    let within = slice_get_within (edges p) e x at in
    let many = ap length (sym are) ∙ length-map (edges p) (λ (e : Edge). e.source) in
    omega (arith, within, many)

pub read_source :
    (p : PlanRecord) (e : ℕ) (x : Edge) → map (λ (e : Edge). e.source) (edges p) ≡ sources p → slice_get (edges p) e ≡ Some x → source_at p e ≡ x.source
read_source p e x are at =
    ap (λ (l : List ℕ). get_or l e 0) (sym are) ∙ get_or-map (λ (e : Edge). e.source) (edges p) e (edge 0 (Root 0 0))
    ∙ ap (λ (e : Edge). e.source) (get_or_from_slice_get (edges p) e x (edge 0 (Root 0 0)) at)

pub read_reader : (p : PlanRecord) (e : ℕ) (x : Edge) → slice_get (edges p) e ≡ Some x → reader_at p e ≡ x.reader
read_reader p e x at = ap (λ (e : Edge). e.reader) (get_or_from_slice_get (edges p) e x (edge 0 (Root 0 0)) at)

pub may_read :
    (p : PlanRecord) (v : DeskView) (e row tile k : ℕ) → e < reads_in p → source_at p e ≡ k → reader_at p e ≡ Root row tile
    → v.number ≡ 0 → Knows v k → entries e v.served ≡ 0 → MayRead p v e
may_read p v e row tile k within source reader chief known none = record {
  within = within;
  mine = subst (λ (r : Reader). IsMine v r) (sym reader) chief;
  unserved = none;
  known = subst (λ (i : ℕ). Knows v i) (sym source) known;
}

-- ---- what calls add

pub stays_same : (v : DeskView) → Stays v v
stays_same v = record {
  home = refl;
  number = refl;
  solo = refl;
  won = sym (append-nil v.won);
  made = sym (append-nil v.made);
  lost = sym (append-nil v.lost);
  served = sym (append-nil v.served);
  knows = λ k known. known;
  more = [];
  met = sym (append-nil v.met);
}

pub serves_then :
    (v w x : DeskView) (first second : List Signed) → Adds v w [] [] [] first → Adds w x [] [] [] second → Adds v x [] [] [] (first ++ second)
serves_then v w x first second a b = record {
  home = b.home ∙ a.home;
  number = b.number ∙ a.number;
  solo = b.solo ∙ a.solo;
  won = b.won ∙ append-nil w.won ∙ a.won;
  made = b.made ∙ append-nil w.made ∙ a.made;
  lost = b.lost ∙ append-nil w.lost ∙ a.lost;
  served = b.served ∙ ap (λ l. l ++ second) a.served ∙ append_assoc v.served first second;
  knows = λ k known. b.knows k (a.knows k known);
  more = a.more ++ b.more;
  met = b.met ∙ ap (λ l. l ++ b.more) a.met ∙ append_assoc v.met a.more b.more;
}

-- one more tile
pub serves_more :
    (p : PlanRecord) (row tiles : ℕ) (v w x : DeskView) → Serves p row tiles v w
    → Adds w x [] [] [] (signed 0 (root_read_of p row tiles) ∷ []) → Serves p row (tiles + 1) v x
serves_more p row tiles v w x before more =
    subst (λ (l : List Signed). Adds v x [] [] [] l)
    (sym (map-range_with_len_more (λ tile. signed 0 (root_read_of p row tile)) 0 tiles tiles (zero-add tiles)))
    (serves_then v w x (root_reads p row tiles) (signed 0 (root_read_of p row tiles) ∷ []) before more)

-- ---- the reads of the first tiles

entries-append : (e : ℕ) (xs ys : List Signed) → entries e (xs ++ ys) ≡ entries e xs + entries e ys
entries-append e xs ys = sum_by-append (λ (s : Signed). cond (s.item == e) 1 0) xs ys

-- the next tile's read is one more
next_read : (p : PlanRecord) (row tiles e : ℕ)
    → entries e (root_reads p row (suc tiles)) ≡ entries e (root_reads p row tiles) + entries e (signed 0 (root_read_of p row tiles) ∷ [])
next_read p row tiles e =
    let more : root_reads p row (suc tiles) ≡ root_reads p row tiles ++ signed 0 (root_read_of p row tiles) ∷ [] =
    ap (λ (n : ℕ). root_reads p row n) (suc-eq-add-one tiles)
    ∙ map-range_with_len_more (λ t. signed 0 (root_read_of p row t)) 0 tiles tiles (zero-add tiles) in
    ap (λ (l : List Signed). entries e l) more ∙ entries-append e (root_reads p row tiles) (signed 0 (root_read_of p row tiles) ∷ [])

-- the read of one of the first tiles
record IsOfTile (p : PlanRecord) (row tiles e : ℕ) : Type 0 where
  tile : ℕ
  there : tile < tiles
  is : e ≡ root_read_of p row tile

reads_to : (p : PlanRecord) (row tiles e : ℕ) → 0 < entries e (root_reads p row tiles) → IsOfTile p row tiles e
reads_to p row zero e some = absurd (let n : 0 < 0 = some in omega (arith, n))
reads_to p row (suc tiles) e some = elim (cases_eq (root_read_of p row tiles) e) [
  | inl same ↦ record { tile = tiles; there = omega arith; is = sym same }
  | inr differ ↦
      let other : entries e (signed 0 (root_read_of p row tiles) ∷ []) ≡ 0 = rw (ne_eqb (root_read_of p row tiles) e differ) refl in
      let before = reads_to p row tiles e (omega (arith, some, next_read p row tiles e, other)) in
      record { tile = before.tile; there = omega (arith, before.there); is = before.is }
]

reads_from : (p : PlanRecord) (row tiles tile e : ℕ) → tile < tiles → e ≡ root_read_of p row tile → 0 < entries e (root_reads p row tiles)
reads_from p row zero tile e less is = absurd (omega (arith, less))
reads_from p row (suc tiles) tile e less is = elim (cases_lt tile tiles) [
  | inl before ↦ omega (arith, reads_from p row tiles tile e before is, next_read p row tiles e)
  | inr last ↦
      let same : tile ≡ tiles = omega (arith, less, last) in
      let here : root_read_of p row tiles ≡ e = sym (is ∙ ap (λ t. root_read_of p row t) same) in
      let one : entries e (signed 0 (root_read_of p row tiles) ∷ []) ≡ 1 = rw (eq-eqb (root_read_of p row tiles) e here) refl in
      omega (arith, one, next_read p row tiles e)
]

pub row_reads : (p : PlanRecord) (row tiles e : ℕ)
    → 0 < entries e (root_reads p row tiles) ↔ ((tile : ℕ) × (tile < tiles) × (e ≡ root_read_of p row tile))
row_reads p row tiles e =
    (λ some. let o = reads_to p row tiles e some in (o.tile, o.there, o.is), λ o. reads_from p row tiles o.0 e o.1 o.2)

-- the read of a later tile is not among them
before_unserved : (p : PlanRecord) (row tile tiles : ℕ) → tiles ≤ tile → entries (root_read_of p row tile) (root_reads p row tiles) ≡ 0
before_unserved p row tile tiles few = elim (cases_lt 0 (entries (root_read_of p row tile) (root_reads p row tiles))) [
  | inl some ↦
      let o = reads_to p row tiles (root_read_of p row tile) some in
      let same = o.is in
      absurd (omega (arith, same, o.there, few))
  | inr none ↦ omega (arith, none)
]

pub still_unserved :
    (p : PlanRecord) (row tile : ℕ) (v w : DeskView) → MayGather p row v → tile < length p.tiles → Serves p row tile v w
    → entries (root_read_of p row tile) w.served ≡ 0
still_unserved p row tile v w may there serves =
    let all = ap (λ (l : List Signed). entries (root_read_of p row tile) l) serves.served
    ∙ entries-append (root_read_of p row tile) v.served (root_reads p row tile) in
    let before = before_unserved p row tile tile (omega arith) in
    let none = may.unserved tile there in
    omega (arith, all, before, none)

-- ---- the calls for one tile

pub still_none : (v w : DeskView) (e n : ℕ) → Stays v w → e ≡ n → entries n v.served ≡ 0 → entries e w.served ≡ 0
still_none v w e n stays same none =
    ap (λ (l : List Signed). entries e l) (stays.served ∙ append-nil v.served) ∙ ap (λ (i : ℕ). entries i v.served) same ∙ none

pub served_then :
    (v w x : DeskView) (e n : ℕ) → v.number ≡ 0 → Stays v w → e ≡ n → Adds w x [] [] [] (signed w.number e ∷ [])
    → Adds v x [] [] [] (signed 0 n ∷ [])
served_then v w x e n chief stays same adds =
    subst (λ (i : ℕ). Adds v x [] [] [] (signed 0 i ∷ [])) same
    (subst (λ (i : ℕ). Adds v x [] [] [] (signed i e ∷ [])) (stays.number ∙ chief)
    (serves_then v w x [] (signed w.number e ∷ []) stays adds))

-- nothing was added after some tiles
pub some_served :
    (p : PlanRecord) (row tiles : ℕ) (v w x : DeskView) → tiles < length p.tiles → Serves p row tiles v w → Stays w x → ServesSome p row v x
some_served p row tiles v w x there serves stays = record {
  tiles = tiles;
  few = omega (arith, there);
  serves = subst (λ (l : List Signed). Adds v x [] [] [] l) (append-nil (root_reads p row tiles))
      (serves_then v w x (root_reads p row tiles) [] serves stays);
}
