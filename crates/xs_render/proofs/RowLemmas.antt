-- Lemmas on the rows of a section that are gathered one after another
use Rattle.std.proofs.Common.{◌≡◌, ◌<◌, ◌≤◌, ◌↔◌, ◌+◌, ◌*◌, ◌/◌, ◌-◌, ◌==◌, ℕ, cond, List, length, refl, sym, ap, subst, ◌∙◌, inl, inr, true, arith}
use Rattle.std.proofs.lemmas.Bool.{cases_lt}
use Rattle.std.proofs.lemmas.List.Sums.{sum_by-append}
use Rattle.std.proofs.lemmas.Nat.{div-mul-add}
use Rattle.xs_base.specs.declared.limits.TheConstants.{SECTION_ROWS}
use Rattle.xs_plan.specs.Record.{PlanRecord, root_at, rows_in}
use Rattle.xs_plan.specs.Reads.{root_read_of}
use Rattle.xs_core.specs.Views.{Signed, DeskView, Knows, entries}
use Rattle.xs_frames.specs.Rows.{root_reads, MayGather, Serves}
use Rattle.xs_worker.specs.Sections.{IsRootOf, IsRootReadOf, IsDone, AreUngathered, AreGathered}
use Rattle.xs_render.specs.Progress.{IsRendered, row_at, rows_of_section}
use Rattle.xs_render.specs.Computed.{IsRecorded}
use Rattle.xs_render.proofs.EntryLemmas.{entries-still}

-- what a row serves are the reads of its tiles
abbrev pub TellsRows : Type 0
TellsRows = (p : PlanRecord) (row tiles e : ℕ) → 0 < entries e (root_reads p row tiles) ↔ ((tile : ℕ) × (tile < tiles) × (e ≡ root_read_of p row tile))

pub row_there : (p : PlanRecord) (s i : ℕ) → i < rows_of_section p s → row_at s i < rows_in p
row_there p s i there = omega (arith, there)

row_here : (p : PlanRecord) (s i : ℕ) → i < rows_of_section p s → row_at s i / SECTION_ROWS ≡ s
row_here p s i there = omega (arith, there)

its_read : (p : PlanRecord) (s i tile : ℕ) → i < rows_of_section p s → tile < length p.tiles → IsRootReadOf p s (root_read_of p (row_at s i) tile)
its_read p s i tile there tile_there = record {
  row = row_at s i;
  tile = tile;
  row_there = row_there p s i there;
  row_in = row_here p s i there;
  tile_there = tile_there;
  is = refl;
}

pub rendered_none : (p : PlanRecord) (s : ℕ) (v : DeskView) → v.number ≡ 0 → v.solo ≡ true → IsDone p s v → AreUngathered p s v → IsRendered p s 0 v
rendered_none p s v chief alone done none = record {
  chief = chief;
  alone = alone;
  done = done;
  gathered = λ i tile less tile_there. absurd (omega (arith, less));
  waiting = λ i tile from there tile_there. none (root_read_of p (row_at s i) tile) (its_read p s i tile there tile_there);
}

pub may_gather : (p : PlanRecord) (s i : ℕ) (v : DeskView) → i < rows_of_section p s → IsRendered p s i v
    → ((k : ℕ) → IsRootOf p s k → Knows v k) → MayGather p (row_at s i) v
may_gather p s i v there rendered ready = record {
  chief = rendered.chief;
  alone = rendered.alone;
  known = λ tile tile_there.
      ready (root_at p (row_at s i) tile) (record {
        row = row_at s i;
        tile = tile;
        row_there = row_there p s i there;
        row_in = row_here p s i there;
        tile_there = tile_there;
        is = refl;
      });
  unserved = λ tile tile_there. rendered.waiting i tile (omega arith) there tile_there;
}

pub its_reads : TellsRows → (p : PlanRecord) (s i e : ℕ) → i < rows_of_section p s → 0 < entries e (root_reads p (row_at s i) (length p.tiles))
    → IsRootReadOf p s e
its_reads tells p s i e there some =
    let o = (tells p (row_at s i) (length p.tiles) e).0 some in
    subst (λ (r : ℕ). IsRootReadOf p s r) (sym o.2) (its_read p s i o.0 there o.1)

same_row : (p : PlanRecord) (a b t u : ℕ) → t < length p.tiles → u < length p.tiles → root_read_of p a t ≡ root_read_of p b u → a ≡ b
same_row p a b t u t_there u_there same =
    let places : a * length p.tiles + t ≡ b * length p.tiles + u = omega (arith, same) in
    sym (div-mul-add a (length p.tiles) t t_there) ∙ ap (λ n. n / length p.tiles) places ∙ div-mul-add b (length p.tiles) u u_there

served_grown : (p : PlanRecord) (row e : ℕ) (v w : DeskView) → Serves p row (length p.tiles) v w
    → entries e w.served ≡ entries e v.served + entries e (root_reads p row (length p.tiles))
served_grown p row e v w serves =
    ap (λ (l : List Signed). entries e l) serves.served
    ∙ sum_by-append (λ (s : Signed). cond (s.item == e) 1 0) v.served (root_reads p row (length p.tiles))

pub rendered_more : TellsRows → (p : PlanRecord) (s i : ℕ) (v w : DeskView) → IsRendered p s i v → Serves p (row_at s i) (length p.tiles) v w
    → IsDone p s w → IsRendered p s (i + 1) w
rendered_more tells p s i v w before serves done = record {
  chief = serves.number ∙ before.chief;
  alone = serves.solo ∙ before.alone;
  done = done;
  gathered = gathered;
  waiting = waiting;
}
  where
    grown : (e : ℕ) → entries e w.served ≡ entries e v.served + entries e (root_reads p (row_at s i) (length p.tiles))
    grown e = served_grown p (row_at s i) e v w serves

    gathered : (j tile : ℕ) → j < i + 1 → tile < length p.tiles → 0 < entries (root_read_of p (row_at s j) tile) w.served
    gathered j tile less tile_there = elim (cases_lt j i) [
      | inl earlier ↦ omega (arith, before.gathered j tile earlier tile_there, grown (root_read_of p (row_at s j) tile))
      | inr last ↦
          let same : i ≡ j = omega (arith, less, last) in
          let e = root_read_of p (row_at s i) tile in
          let here = (tells p (row_at s i) (length p.tiles) e).1 (tile, tile_there, refl) in
          subst (λ (r : ℕ). 0 < entries (root_read_of p (row_at s r) tile) w.served) same (omega (arith, here, grown e))
    ]

    waiting : (j tile : ℕ) → i + 1 ≤ j → j < rows_of_section p s → tile < length p.tiles → entries (root_read_of p (row_at s j) tile) w.served ≡ 0
    waiting j tile from there tile_there =
        let e = root_read_of p (row_at s j) tile in
        let none = before.waiting j tile (omega (arith, from)) there tile_there in
        elim (cases_lt 0 (entries e (root_reads p (row_at s i) (length p.tiles)))) [
          | inl some ↦
              let o = (tells p (row_at s i) (length p.tiles) e).0 some in
              let same = same_row p (row_at s j) (row_at s i) tile o.0 tile_there o.1 o.2 in
              absurd (omega (arith, from, same))
          | inr other ↦ omega (arith, none, other, grown e)
        ]

pub recorded_still : (p : PlanRecord) (row : ℕ) (v w : DeskView) (computed : List ℕ) → Serves p row (length p.tiles) v w
    → IsRecorded v computed → IsRecorded w computed
recorded_still p row v w computed serves before = record {
  made = λ k. before.made k ∙ sym (entries-still k v.made w.made serves.made);
  once = before.once;
}

pub gathered_all : (p : PlanRecord) (s : ℕ) (v : DeskView) → IsRendered p s (rows_of_section p s) v → AreGathered p s v
gathered_all p s v rendered e at = found at.row at.tile at.row_there at.row_in at.tile_there at.is
  where
    found : (row tile : ℕ) → row < rows_in p → row / SECTION_ROWS ≡ s → tile < length p.tiles → e ≡ root_read_of p row tile → 0 < entries e v.served
    found row tile there here tile_there is =
        let within : row - s * SECTION_ROWS < rows_of_section p s = omega (arith, there, here) in
        let same : row_at s (row - s * SECTION_ROWS) ≡ row = omega (arith, here) in
        subst (λ (r : ℕ). 0 < entries r v.served) (ap (λ (n : ℕ). root_read_of p n tile) same ∙ sym is)
        (rendered.gathered (row - s * SECTION_ROWS) tile within tile_there)
