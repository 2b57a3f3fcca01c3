-- Lemmas on rows of a section that are gathered one after another
use Rattle.std.proofs.Common.{◌≡◌, ◌<◌, ◌≤◌, ◌↔◌, ◌+◌, ◌*◌, ◌/◌, ◌==◌, ℕ, cond, List, length, slice_index, refl, sym, ap, subst, ◌∙◌, inl, inr, true, arith}
use Rattle.std.proofs.lemmas.Bool.{cases_lt}
use Rattle.std.proofs.lemmas.List.Sums.{sum_by-append}
use Rattle.std.proofs.lemmas.Nat.{div-mul-add}
use Rattle.xs_base.specs.declared.limits.TheConstants.{SECTION_ROWS}
use Rattle.xs_plan.specs.Record.{PlanRecord, root_at, rows_in}
use Rattle.xs_plan.specs.Reads.{root_read_of}
use Rattle.xs_core.specs.Views.{Signed, DeskView, Knows, entries}
use Rattle.xs_frames.specs.Rows.{root_reads, MayGather, Serves}
use Rattle.xs_worker.specs.Sections.{IsRootOf, IsRootReadOf, AreUngathered, AreGathered}
use Rattle.xs_sections.specs.Orders.{IsOrder}

-- what a row serves are the reads of its tiles
abbrev pub TellsRows : Type 0
TellsRows = (p : PlanRecord) (row tiles e : ℕ) → 0 < entries e (root_reads p row tiles) ↔ ((tile : ℕ) × (tile < tiles) × (e ≡ root_read_of p row tile))

pub may_gather : (p : PlanRecord) (s row : ℕ) (v : DeskView) → v.number ≡ 0 → v.solo ≡ true → row < rows_in p → row / SECTION_ROWS ≡ s
    → ((k : ℕ) → IsRootOf p s k → Knows v k) → ((tile : ℕ) → tile < length p.tiles → entries (root_read_of p row tile) v.served ≡ 0)
    → MayGather p row v
may_gather p s row v chief alone there here ready unserved = record {
  chief = chief;
  alone = alone;
  known = λ tile tile_there.
      ready (root_at p row tile)
      (record { row = row; tile = tile; row_there = there; row_in = here; tile_there = tile_there; is = refl });
  unserved = unserved;
}

pub row_here : TellsRows → (p : PlanRecord) (s row e : ℕ) → row < rows_in p → row / SECTION_ROWS ≡ s
    → 0 < entries e (root_reads p row (length p.tiles)) → IsRootReadOf p s e
row_here tells p s row e there here some =
    let o = (tells p row (length p.tiles) e).0 some in
    record { row = row; tile = o.0; row_there = there; row_in = here; tile_there = o.1; is = o.2 }

-- the reads of the first rows of an order are served, and of the others not
pub record Gathered (p : PlanRecord) (rows : List ℕ) (n : ℕ) (v : DeskView) : Type 0 where
  pub before : (i tile : ℕ) → i < n → i < length rows → tile < length p.tiles → 0 < entries (root_read_of p (slice_index rows i) tile) v.served
  pub after : (i tile : ℕ) → n ≤ i → i < length rows → tile < length p.tiles → entries (root_read_of p (slice_index rows i) tile) v.served ≡ 0

pub gathered_none : (p : PlanRecord) (s : ℕ) (rows : List ℕ) (v : DeskView) → IsOrder p s rows → AreUngathered p s v → Gathered p rows 0 v
gathered_none p s rows v order none = record {
  before = λ i tile less there tile_there. absurd (omega (arith, less));
  after = λ i tile from there tile_there.
      none (root_read_of p (slice_index rows i) tile) (record {
        row = slice_index rows i;
        tile = tile;
        row_there = order.there i there;
        row_in = order.within i there;
        tile_there = tile_there;
        is = refl;
      });
}

same_row : (p : PlanRecord) (a b t u : ℕ) → t < length p.tiles → u < length p.tiles → root_read_of p a t ≡ root_read_of p b u → a ≡ b
same_row p a b t u t_there u_there same =
    let places : a * length p.tiles + t ≡ b * length p.tiles + u = omega (arith, same) in
    sym (div-mul-add a (length p.tiles) t t_there) ∙ ap (λ n. n / length p.tiles) places ∙ div-mul-add b (length p.tiles) u u_there

served_grown : (p : PlanRecord) (row e : ℕ) (v w : DeskView) → Serves p row (length p.tiles) v w
    → entries e w.served ≡ entries e v.served + entries e (root_reads p row (length p.tiles))
served_grown p row e v w serves =
    ap (λ (l : List Signed). entries e l) serves.served
    ∙ sum_by-append (λ (s : Signed). cond (s.item == e) 1 0) v.served (root_reads p row (length p.tiles))

pub gathered_more : TellsRows → (p : PlanRecord) (s : ℕ) (rows : List ℕ) (n : ℕ) (v w : DeskView) → IsOrder p s rows → n < length rows
    → Gathered p rows n v → Serves p (slice_index rows n) (length p.tiles) v w → Gathered p rows (n + 1) w
gathered_more tells p s rows n v w order there so_far serves = record { before = before; after = after }
  where
    grown : (e : ℕ) → entries e w.served ≡ entries e v.served + entries e (root_reads p (slice_index rows n) (length p.tiles))
    grown e = served_grown p (slice_index rows n) e v w serves

    before : (i tile : ℕ) → i < n + 1 → i < length rows → tile < length p.tiles → 0 < entries (root_read_of p (slice_index rows i) tile) w.served
    before i tile less in_rows tile_there = elim (cases_lt i n) [
      | inl earlier ↦
          omega (arith, so_far.before i tile earlier in_rows tile_there, grown (root_read_of p (slice_index rows i) tile))
      | inr last ↦
          let same : n ≡ i = omega (arith, less, last) in
          let e = root_read_of p (slice_index rows n) tile in
          let here = (tells p (slice_index rows n) (length p.tiles) e).1 (tile, tile_there, refl) in
          subst (λ (j : ℕ). 0 < entries (root_read_of p (slice_index rows j) tile) w.served) same (omega (arith, here, grown e))
    ]

    after : (i tile : ℕ) → n + 1 ≤ i → i < length rows → tile < length p.tiles → entries (root_read_of p (slice_index rows i) tile) w.served ≡ 0
    after i tile from in_rows tile_there =
        let e = root_read_of p (slice_index rows i) tile in
        let none = so_far.after i tile (omega (arith, from)) in_rows tile_there in
        elim (cases_lt 0 (entries e (root_reads p (slice_index rows n) (length p.tiles)))) [
          | inl some ↦
              let o = (tells p (slice_index rows n) (length p.tiles) e).0 some in
              let same = same_row p (slice_index rows i) (slice_index rows n) tile o.0 tile_there o.1 o.2 in
              absurd (order.once n i (omega (arith, from)) in_rows (sym same))
          | inr other ↦ omega (arith, none, other, grown e)
        ]

pub gathered_all : (p : PlanRecord) (s : ℕ) (rows : List ℕ) (n : ℕ) (v : DeskView) → IsOrder p s rows → length rows ≤ n → Gathered p rows n v
    → AreGathered p s v
gathered_all p s rows n v order whole so_far e at =
    let o = order.all at.row at.row_there at.row_in in
    let here = so_far.before o.0 at.tile (omega (arith, o.1, whole)) o.1 at.tile_there in
    subst (λ (e : ℕ). 0 < entries e v.served) (ap (λ row. root_read_of p row at.tile) o.2 ∙ sym at.is) here
