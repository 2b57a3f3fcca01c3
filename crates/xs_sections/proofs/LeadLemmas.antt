-- Lemmas on a section that is made where all drawings are held
use Rattle.std.proofs.Common.{◌≡◌, ◌<◌, ◌↔◌, ◌-◌, ◌*◌, ◌/◌, ℕ, Option, Some, IfSome, IsSome, Contains, length, sym, ap, subst, ◌∙◌, arith}
use Rattle.xs_base.specs.declared.limits.TheConstants.{SECTION_ROWS}
use Rattle.xs_rawfile.specs.Held.{Held, slot_in}
use Rattle.xs_plan.specs.Record.{PlanRecord, entry_at, drawing_of, rows_in}
use Rattle.xs_plan.specs.Reads.{root_read_of}
use Rattle.xs_plan.specs.Sections.{first_section}
use Rattle.xs_plan.specs.Needed.{needs}
use Rattle.xs_core.specs.Views.{DeskView, entries}
use Rattle.xs_worker.specs.Sections.{AreUngathered}
use Rattle.xs_render.specs.Progress.{AreHeld, IsRendered, row_at, rows_of_section}
use Rattle.xs_sections.specs.Drawn.{AreAllDrawn}

-- a section needs the drawings of the aliases that come first in it
abbrev pub TellsNeeds : Type 0
TellsNeeds = (p : PlanRecord) (s d : ℕ) → Contains (needs p s) d
    ↔ ((k : ℕ) × (k < length p.entries) × (first_section p k ≡ s) × (drawing_of (entry_at p.entries k).job ≡ Some d))

pub all_held : TellsNeeds → (p : PlanRecord) (s : ℕ) (h : Held) → AreAllDrawn p h → AreHeld h (needs p s)
all_held tells p s h drawn d needed =
    let o = (tells p s d).0 needed in
    subst (λ (x : Option ℕ). IfSome x (λ d. IsSome (slot_in h d))) o.3 (drawn o.0)

pub none_gathered : (p : PlanRecord) (s : ℕ) (v : DeskView) → IsRendered p s 0 v → AreUngathered p s v
none_gathered p s v rendered e at = waits at.row at.tile at.row_there at.row_in at.tile_there at.is
  where
    waits : (row tile : ℕ) → row < rows_in p → row / SECTION_ROWS ≡ s → tile < length p.tiles → e ≡ root_read_of p row tile → entries e v.served ≡ 0
    waits row tile there here tile_there is =
        let within : row - s * SECTION_ROWS < rows_of_section p s = omega (arith, there, here) in
        let same : row_at s (row - s * SECTION_ROWS) ≡ row = omega (arith, here) in
        subst (λ (r : ℕ). entries r v.served ≡ 0) (ap (λ (n : ℕ). root_read_of p n tile) same ∙ sym is)
        (rendered.waiting (row - s * SECTION_ROWS) tile (omega arith) within tile_there)
