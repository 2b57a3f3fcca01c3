-- The rows of a section in some order
use Rattle.std.specs.Prelude.{◌≡◌, ◌≢◌, ◌<◌, ℕ, ◌+◌, ◌-◌, ◌/◌, List, length, slice_index}
use Rattle.xs_base.specs.declared.limits.TheConstants.{SECTION_ROWS}
use Rattle.xs_plan.specs.Record.{PlanRecord, rows_in}
use Rattle.xs_sections.specs.declared.order.Order.{Order}
use Rattle.xs_sections.specs.declared.order.Order.TheVariants.{FirstFirst, LastFirst}

-- each row of a section stands once among these, and no other does
pub record IsOrder (p : PlanRecord) (s : ℕ) (rows : List ℕ) : Type 0 where
  pub there : (i : ℕ) → i < length rows → slice_index rows i < rows_in p
  pub within : (i : ℕ) → i < length rows → slice_index rows i / SECTION_ROWS ≡ s
  pub once : (i j : ℕ) → i < j → j < length rows → slice_index rows i ≢ slice_index rows j
  pub all : (row : ℕ) → row < rows_in p → row / SECTION_ROWS ≡ s → (i : ℕ) × (i < length rows) × (slice_index rows i ≡ row)

-- the row at a place, of so many rows from one on
abbrev pub row_at : Order → ℕ → ℕ → ℕ → ℕ
row_at FirstFirst first rows i = first + i
row_at LastFirst first rows i = first + (rows - 1 - i)
