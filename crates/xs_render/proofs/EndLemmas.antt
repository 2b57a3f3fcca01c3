-- Lemmas on what is there once all sections are rendered
use Rattle.std.proofs.Common.{◌≡◌, ◌<◌, ◌≤◌, ◌↔◌, ◌+◌, ◌-◌, ◌/◌, ◌==◌, ◌&&◌, ℕ, Some, List, [], All, Contains, map, length, slice_get, refl, sym, ap, ◌∙◌, inl, inr, arith}
use Rattle.std.proofs.lemmas.Bool.{cases_lt, and_from, eq-eqb}
use Rattle.std.proofs.lemmas.List.{length-map}
use Rattle.std.proofs.lemmas.List.Elements.{All-get_or}
use Rattle.std.proofs.lemmas.Option.{slice_get_within, get_or_from_slice_get}
use Rattle.xs_base.specs.declared.limits.TheConstants.{SECTION_ROWS}
use Rattle.xs_plan.specs.declared.job.Edge.{Edge}
use Rattle.xs_plan.specs.declared.job.Reader.{Reader}
use Rattle.xs_plan.specs.declared.job.Reader.TheVariants.{Root}
use Rattle.xs_plan.specs.Record.{PlanRecord, root_at, rows_in}
use Rattle.xs_plan.specs.Reads.{reads_in, root_read_of, edge, edges, sources}
use Rattle.xs_plan.specs.Sections.{first_row, first_section, section_of, sections_in, live_after}
use Rattle.xs_plan.specs.Valid.{IsPlan}
use Rattle.xs_core.specs.States.{source_at}
use Rattle.xs_core.specs.Views.{DeskView, DeskOk, IsHeld, entries}
use Rattle.xs_core.proofs.CountLemmas.{how_many-some}
use Rattle.xs_worker.specs.Sections.{IsBegun, IsDone, AreGathered, read_section}
use Rattle.xs_render.specs.Progress.{IsReady, IsOver}
use Rattle.xs_render.specs.Computed.{IsRecorded, HasEachOnce}
use Rattle.xs_render.proofs.EntryLemmas.{none_past}

-- the laws of a plan that are cited here
pub record Facts (p : PlanRecord) : Type 0 where
  pub valid : IsPlan p
  pub first : (k : ℕ) → k < length p.entries → first_row p k < rows_in p
  pub are : map (λ (e : Edge). e.source) (edges p) ≡ sources p
  pub roots : (row tile : ℕ) → row < rows_in p → tile < length p.tiles
      → slice_get (edges p) (root_read_of p row tile) ≡ Some (edge (root_at p row tile) (Root row tile))
  pub exist : All (λ source. source < length p.entries) (sources p)
  pub none : (s : ℕ) → sections_in p ≤ s + 1 → live_after p s ≡ []
  pub held : (s : ℕ) (v : DeskView) (k : ℕ) → IsDone p s v → AreGathered p s v → IsHeld p v k ↔ Contains (live_after p s) k

some_section : (p : PlanRecord) → IsPlan p → sections_in p ≡ (sections_in p - 1) + 1
some_section p valid = omega (arith, valid.few_rows.0)

-- before the next section the last one is done, and its rows are gathered
done_before : (p : PlanRecord) (s n : ℕ) (v : DeskView) → n ≡ s + 1 → IsBegun p n v → IsDone p s v
done_before p s n v next begun = record {
  settled = begun.settled;
  made = λ k there. (
    λ some. let less = (begun.made k there).0 some in omega (arith, less, next),
    λ le. (begun.made k there).1 (omega (arith, le, next)),
  );
  ports = λ e alias port within reader le.
      let here : read_section p e ≡ first_section p alias = ap (λ (r : Reader). section_of p r) reader in
      (begun.served e within).1 (omega (arith, here, le, next));
  earlier = λ e within less. (begun.served e within).1 (omega (arith, less, next));
  none_later = λ e within some. let less = (begun.served e within).0 some in omega (arith, less, next);
}

gathered_before : (p : PlanRecord) (s n : ℕ) (v : DeskView) → Facts p → n ≡ s + 1 → IsBegun p n v → AreGathered p s v
gathered_before p s n v f next begun e at =
    let read = f.roots at.row at.tile at.row_there at.tile_there in
    let many = ap (λ (l : List ℕ). length l) (sym f.are) ∙ length-map (edges p) (λ (e : Edge). e.source) in
    let edge_there = slice_get_within (edges p) (root_read_of p at.row at.tile) (edge (root_at p at.row at.tile) (Root at.row at.tile)) read in
    let within : e < reads_in p = omega (arith, at.is, many, edge_there) in
    let its = ap (λ (x : Edge). section_of p x.reader)
    (get_or_from_slice_get (edges p) (root_read_of p at.row at.tile) (edge (root_at p at.row at.tile) (Root at.row at.tile)) (edge 0 (Root 0 0)) read) in
    let here : read_section p e ≡ at.row / SECTION_ROWS = ap (λ (n : ℕ). read_section p n) at.is ∙ its in
    (begun.served e within).1 (omega (arith, here, at.row_in, next))

contains_none : (xs : List ℕ) (k : ℕ) → xs ≡ [] → Contains xs k → ⊥
contains_none xs k none has =
    let empty = ap (λ (l : List ℕ). length l) none in
    let there = has.1 in
    omega (arith, empty, there)

-- nothing is held
nothing_held : (p : PlanRecord) (v : DeskView) (k : ℕ) → Facts p → IsReady p (sections_in p) v → ¬ IsHeld p v k
nothing_held p v k f ready held =
    let next = some_section p f.valid in
    let done = done_before p (sections_in p - 1) (sections_in p) v next ready.begun in
    let gathered = gathered_before p (sections_in p - 1) (sections_in p) v f next ready.begun in
    contains_none (live_after p (sections_in p - 1)) k (f.none (sections_in p - 1) (omega (arith, next)))
    ((f.held (sections_in p - 1) v k done gathered).0 held)

made_once : (p : PlanRecord) (v : DeskView) (k : ℕ) → Facts p → DeskOk p v → IsReady p (sections_in p) v → k < length p.entries → entries k v.made ≡ 1
made_once p v k f ok ready there =
    let first = f.first k there in
    let some = (ready.begun.made k there).1 (omega (arith, first)) in
    omega (arith, some, ok.apart k)

served_once : (p : PlanRecord) (v : DeskView) (e : ℕ) → Facts p → DeskOk p v → IsReady p (sections_in p) v → e < reads_in p → entries e v.served ≡ 1
served_once p v e f ok ready within = elim (cases_lt 0 (entries e v.served)) [
  | inl some ↦ omega (arith, some, ok.served_once e)
  | inr none ↦
      let there : source_at p e < length p.entries = All-get_or (λ source. source < length p.entries) (sources p) e 0 within f.exist in
      let made = made_once p v (source_at p e) f ok ready there in
      let unserved : entries e v.served ≡ 0 = omega (arith, none) in
      let lacks = how_many-some (reads_in p) e (λ r. (source_at p r == source_at p e) && (entries r v.served == 0)) within
      (and_from (source_at p e == source_at p e) (entries e v.served == 0) (eq-eqb (source_at p e) (source_at p e) refl) (eq-eqb (entries e v.served) 0 unserved)) in
      absurd (nothing_held p v (source_at p e) f ready (omega (arith, made), lacks))
]

pub all_over : (p : PlanRecord) (v : DeskView) → Facts p → DeskOk p v → IsReady p (sections_in p) v → IsOver p v
all_over p v f ok ready = record {
  alone = ready.alone;
  won = λ k there. ready.begun.settled k ∙ made_once p v k f ok ready there;
  made = λ k there. made_once p v k f ok ready there;
  others = λ k past. none_past p v k ok past;
  lost = λ k. omega (arith, ready.begun.settled k, ok.backed k);
  served = λ e within. served_once p v e f ok ready within;
  held = λ k. nothing_held p v k f ready;
}

pub each_once : (p : PlanRecord) (v : DeskView) (computed : List ℕ) → IsOver p v → IsRecorded v computed → HasEachOnce p computed
each_once p v computed over recorded = record {
  each = λ k there. recorded.made k ∙ over.made k there;
  others = λ k past. recorded.made k ∙ over.others k past;
}
