-- How far a plan is rendered at a seat that is alone: section by section, and in a section row by row
use Rattle.std.specs.Prelude.{◌≡◌, ◌<◌, ◌≤◌, ℕ, ◌+◌, ◌-◌, ◌*◌, min, true, List, Contains, IsSome, length}
use Rattle.xs_base.specs.declared.limits.TheConstants.{SECTION_ROWS}
use Rattle.xs_rawfile.specs.Held.{Held, slot_in}
use Rattle.xs_plan.specs.Record.{PlanRecord, rows_in}
use Rattle.xs_plan.specs.Reads.{reads_in, root_read_of}
use Rattle.xs_core.specs.Views.{DeskView, IsHeld, entries}
use Rattle.xs_worker.specs.Sections.{IsBegun, IsDone}

-- a row of a section; both count from 0
abbrev pub row_at : ℕ → ℕ → ℕ
row_at s i = s * SECTION_ROWS + i

-- how many rows a section has
abbrev pub rows_of_section : PlanRecord → ℕ → ℕ
rows_of_section p s = min SECTION_ROWS (rows_in p - s * SECTION_ROWS)

-- so many sections are rendered and nothing of a later one is made; the seat is the chief's, and alone
pub record IsReady (p : PlanRecord) (sections : ℕ) (v : DeskView) : Type 0 where
  pub chief : v.number ≡ 0
  pub alone : v.solo ≡ true
  pub begun : IsBegun p sections v

-- all that comes first in a section is made; so many of its rows are gathered, the first ones, and no others; the seat is
-- the chief's, and alone
pub record IsRendered (p : PlanRecord) (s rows : ℕ) (v : DeskView) : Type 0 where
  pub chief : v.number ≡ 0
  pub alone : v.solo ≡ true
  pub done : IsDone p s v
  pub gathered : (i tile : ℕ) → i < rows → tile < length p.tiles → 0 < entries (root_read_of p (row_at s i) tile) v.served
  pub waiting :
      (i tile : ℕ) → rows ≤ i → i < rows_of_section p s → tile < length p.tiles
      → entries (root_read_of p (row_at s i) tile) v.served ≡ 0

-- all is rendered: each alias was won and made once, none was given up, each read was served once, and no tile is held
pub record IsOver (p : PlanRecord) (v : DeskView) : Type 0 where
  pub alone : v.solo ≡ true
  pub won : (k : ℕ) → k < length p.entries → entries k v.won ≡ 1
  pub made : (k : ℕ) → k < length p.entries → entries k v.made ≡ 1
  pub others : (k : ℕ) → length p.entries ≤ k → entries k v.made ≡ 0
  pub lost : (k : ℕ) → entries k v.lost ≡ 0
  pub served : (e : ℕ) → e < reads_in p → entries e v.served ≡ 1
  pub held : (k : ℕ) → ¬ IsHeld p v k

-- each of these drawings is held
abbrev pub AreHeld : Held → List ℕ → Type 0
AreHeld h drawings = (d : ℕ) → Contains drawings d → IsSome (slot_in h d)
