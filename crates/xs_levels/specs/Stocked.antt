-- What a stock holds between sections
use Rattle.std.specs.Prelude.{◌≡◌, ◌<◌, ◌≤◌, ◌+◌, ◌*◌, ◌⊎◌, ℕ, ◌==◌, nat_le, not, Bool, true, false, ◌&&◌, List, length, filter, sum_by, Option, Some, None, is_some, if◌then◌else◌}
use Rattle.std.specs.Option.{option_map_or}
use Rattle.xs_base.specs.Listed.{is_listed}
use Rattle.xs_rawfile.specs.Raw.{Raw}
use Rattle.xs_rawfile.specs.Held.{Held, slot_in}
use Rattle.xs_chain.specs.Row.{Row, list_with}
use Rattle.xs_plan.specs.Record.{PlanRecord}
use Rattle.xs_plan.specs.Sections.{sections_in}
use Rattle.xs_plan.specs.Needed.{needs_before, last_section_of, held}
use Rattle.xs_levels.specs.Table.{TableRecord, IsTable}
use Rattle.xs_levels.specs.Films.{AreAsWritten}

-- the drawings that are held; a list for each section, of those that it is the last to need; the most bytes
-- that may be held, and those that are; how many sections were loaded, and how many ended
pub record StockRecord : Type 0 where
  pub held : Held
  pub row : Row
  pub limit : ℕ
  pub bytes : ℕ
  pub loaded : ℕ
  pub ended : ℕ

-- the bytes of a drawing, four for each pixel
abbrev pub raw_bytes : Raw → ℕ
raw_bytes g = 4 * (g.w * g.h)

abbrev pub slot_bytes : Option (Raw × Option ℕ) → ℕ
slot_bytes None = 0
slot_bytes (Some slot) = raw_bytes slot.0

abbrev pub held_bytes : Held → ℕ
held_bytes h = sum_by slot_bytes h.slots

-- these drawings are held, and no others
abbrev pub Holds : Held → List ℕ → Type 0
Holds h known = (d : ℕ) → is_some (slot_in h d) ≡ is_listed known d

-- a stock holds just the drawings that are in one of its lists, counts their bytes, and has no more than it may
pub record IsCounted (stock : StockRecord) : Type 0 where
  pub members : stock.row.members ≡ length stock.held.slots
  pub listed : (d : ℕ) → is_some (slot_in stock.held d) ≡ is_some (list_with stock.row d)
  pub bytes : stock.bytes ≡ held_bytes stock.held
  pub few : stock.bytes ≤ stock.limit

-- whether a section or a later one needs a drawing that is needed at all
abbrev pub is_needed_from : PlanRecord → ℕ → ℕ → Bool
is_needed_from p s d = option_map_or (λ last. nat_le s last) (last_section_of p d) true

-- the list of a drawing: that of its last section, where it is known and still needed
abbrev pub list_of_drawing : PlanRecord → ℕ → List ℕ → ℕ → Option ℕ
list_of_drawing p ended known d =
    if is_listed known d && is_needed_from p ended d then last_section_of p d else None

-- a stock has room for the drawings of a table and a list for each section of a plan; of these known drawings
-- it has those that are still needed when so many sections have ended
pub record IsStockOf (p : PlanRecord) (t : TableRecord) (over : ℕ) (known : List ℕ) (stock : StockRecord) : Type 0 where
  pub counted : IsCounted stock
  pub slots : length stock.held.slots ≡ length t.files
  pub lists : length stock.row.lists ≡ sections_in p
  pub palettes : length stock.held.palettes ≡ length t.palettes
  pub as_written : AreAsWritten stock.held.palettes t
  pub listed : (d : ℕ) → list_with stock.row d ≡ list_of_drawing p over known d

-- a stock may take a drawing of a table: its number is one of the table, it is in no list, and the last section
-- that needs it has one
pub record MayTake (p : PlanRecord) (t : TableRecord) (d : ℕ) (stock : StockRecord) : Type 0 where
  pub sound : IsTable t
  pub counted : IsCounted stock
  pub number : d < length t.files
  pub slots : length stock.held.slots ≡ length t.files
  pub palettes : length stock.held.palettes ≡ length t.palettes
  pub as_written : AreAsWritten stock.held.palettes t
  pub free : list_with stock.row d ≡ None
  pub last : (last : ℕ) × (last_section_of p d ≡ Some last) × (last < length stock.row.lists)

-- a stock has taken a drawing of so many bytes
pub record HasTaken (p : PlanRecord) (d : ℕ) (before : StockRecord) (more : ℕ) (now : StockRecord) : Type 0 where
  pub counted : IsCounted now
  pub slots : length now.held.slots ≡ length before.held.slots
  pub palettes : now.held.palettes ≡ before.held.palettes
  pub lists : length now.row.lists ≡ length before.row.lists
  pub listed : (e : ℕ) → list_with now.row e ≡ (if d == e then last_section_of p d else list_with before.row e)
  pub bytes : now.bytes ≡ before.bytes + more
  pub limit : now.limit ≡ before.limit
  pub loaded : now.loaded ≡ before.loaded
  pub ended : now.ended ≡ before.ended

-- a stock has let drawings of a section's list go, and none of another one
pub record IsLess (section : ℕ) (before now : StockRecord) : Type 0 where
  pub counted : IsCounted now
  pub slots : length now.held.slots ≡ length before.held.slots
  pub palettes : now.held.palettes ≡ before.held.palettes
  pub lists : length now.row.lists ≡ length before.row.lists
  pub listed :
      (d : ℕ)
      → (list_with now.row d ≡ list_with before.row d)
      ⊎ ((list_with before.row d ≡ Some section) × (list_with now.row d ≡ None))
  pub limit : now.limit ≡ before.limit
  pub loaded : now.loaded ≡ before.loaded
  pub ended : now.ended ≡ before.ended

-- it stands between two calls: the sections loaded so far are the first ones, and all of them have ended, or
-- all but the last
pub record IsStock (p : PlanRecord) (t : TableRecord) (now : StockRecord) : Type 0 where
  pub table : IsTable t
  pub stock : IsStockOf p t now.ended (needs_before p now.loaded) now

-- the drawings that are held after a section: those held in it, but for those whose last section it is
abbrev pub left_after : PlanRecord → ℕ → List ℕ
left_after p s = filter (λ d. option_map_or (λ last. not (last == s)) (last_section_of p d) true) (held p s)
