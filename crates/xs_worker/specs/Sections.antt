-- Sections of rows
use Rattle.std.specs.Prelude.{◌≡◌, ◌≢◌, ◌<◌, ◌≤◌, ◌↔◌, ℕ, ◌+◌, ◌-◌, ◌*◌, ◌/◌, min, List, Some, length, slice_index, map, flat_map}
use Rattle.std.specs.List.{Contains, range_with_len}
use Rattle.xs_base.specs.declared.limits.TheConstants.{SECTION_ROWS}
use Rattle.xs_plan.specs.declared.job.Reader.TheVariants.{Port}
use Rattle.xs_plan.specs.Record.{PlanRecord, root_at, rows_in}
use Rattle.xs_plan.specs.Reads.{reads_in, port_read_of, root_read_of}
use Rattle.xs_plan.specs.Sections.{first_section, section_of}
use Rattle.xs_core.specs.States.{reader_at}
use Rattle.xs_core.specs.Views.{DeskView, entries, Knows, Unknown}
use Rattle.xs_worker.specs.Reading.{IsReached}

-- a row and tile of a section, and the alias that stands there
pub record IsRootOf (p : PlanRecord) (s k : ℕ) : Type 0 where
  pub row : ℕ
  pub tile : ℕ
  pub row_there : row < rows_in p
  pub row_in : row / SECTION_ROWS ≡ s
  pub tile_there : tile < length p.tiles
  pub is : k ≡ root_at p row tile

-- targets are the aliases of a section's rows and tiles, and no others
pub record AreRoots (p : PlanRecord) (s : ℕ) (targets : List ℕ) : Type 0 where
  pub only : (k : ℕ) → Contains targets k → IsRootOf p s k
  pub all : (k : ℕ) → IsRootOf p s k → Contains targets k

-- a read with a number is that of a row and tile of a section
pub record IsRootReadOf (p : PlanRecord) (s e : ℕ) : Type 0 where
  pub row : ℕ
  pub tile : ℕ
  pub row_there : row < rows_in p
  pub row_in : row / SECTION_ROWS ≡ s
  pub tile_there : tile < length p.tiles
  pub is : e ≡ root_read_of p row tile

-- the section of the read with a number
abbrev pub read_section : PlanRecord → ℕ → ℕ
read_section p e = section_of p (reader_at p e)

-- ---- what stands before and after a section

-- before a section: nothing is claimed or given up, the aliases that come first in earlier sections are made and no
-- others, and the reads of earlier sections are served and no others
pub record IsBegun (p : PlanRecord) (s : ℕ) (v : DeskView) : Type 0 where
  pub settled : (k : ℕ) → entries k v.won ≡ entries k v.made
  pub made : (k : ℕ) → k < length p.entries → 0 < entries k v.made ↔ first_section p k < s
  pub served : (e : ℕ) → e < reads_in p → 0 < entries e v.served ↔ read_section p e < s

-- after a section, whichever of its rows are gathered: nothing is claimed or given up, the aliases that come first in it
-- or before are made and no others, all their reads at ports and the reads of earlier sections are served, and no read of
-- a later one
pub record IsDone (p : PlanRecord) (s : ℕ) (v : DeskView) : Type 0 where
  pub settled : (k : ℕ) → entries k v.won ≡ entries k v.made
  pub made : (k : ℕ) → k < length p.entries → 0 < entries k v.made ↔ first_section p k ≤ s
  pub ports : (e alias port : ℕ) → e < reads_in p → reader_at p e ≡ Port alias port → first_section p alias ≤ s → 0 < entries e v.served
  pub earlier : (e : ℕ) → e < reads_in p → read_section p e < s → 0 < entries e v.served
  pub none_later : (e : ℕ) → e < reads_in p → 0 < entries e v.served → read_section p e ≤ s

-- no row of a section is gathered yet
abbrev pub AreUngathered : PlanRecord → ℕ → DeskView → Type 0
AreUngathered p s v = (e : ℕ) → IsRootReadOf p s e → entries e v.served ≡ 0

-- all rows of a section are gathered
abbrev pub AreGathered : PlanRecord → ℕ → DeskView → Type 0
AreGathered p s v = (e : ℕ) → IsRootReadOf p s e → 0 < entries e v.served

-- what was made is exactly what comes first in a section, each once
pub record IsMadeIn (p : PlanRecord) (s : ℕ) (v w : DeskView) : Type 0 where
  pub here : (k : ℕ) → k < length p.entries → first_section p k ≡ s → entries k w.made ≡ entries k v.made + 1
  pub others : (k : ℕ) → k < length p.entries → first_section p k ≢ s → entries k w.made ≡ entries k v.made

-- what was won, made and served, by however many workers, on behalf of some targets: what was won the targets reach, and
-- it was not known to be ready; exactly the reads at ports of what was made were served
pub record Gained (p : PlanRecord) (targets : List ℕ) (v w : DeskView) : Type 0 where
  pub won : (k : ℕ) → entries k v.won ≤ entries k w.won
  pub made : (k : ℕ) → entries k v.made ≤ entries k w.made
  pub served : (e : ℕ) → entries e v.served ≤ entries e w.served
  pub reached : (k : ℕ) → entries k v.won < entries k w.won → IsReached p targets k × Unknown v k
  pub ports : (e : ℕ) → entries e v.served < entries e w.served
      → (k : ℕ) × (port : ℕ) × (port_read_of p k port ≡ Some e) × (entries k v.made < entries k w.made)
  pub closed : (k port e : ℕ) → entries k v.made < entries k w.made → port_read_of p k port ≡ Some e → 0 < entries e w.served

-- a worker came to the end of the targets
abbrev pub AreKnown : DeskView → List ℕ → Type 0
AreKnown v targets = (i : ℕ) → i < length targets → Knows v (slice_index targets i)

-- ---- the targets of a section in their order

-- the aliases of a tile over some rows
abbrev pub column : PlanRecord → ℕ → ℕ → ℕ → List ℕ
column p tile first rows = map (λ row. root_at p row tile) (range_with_len first rows)

-- the aliases of a section, tile by tile over its rows
abbrev pub section_roots : PlanRecord → ℕ → List ℕ
section_roots p s =
    flat_map (λ tile. column p tile (s * SECTION_ROWS) (min SECTION_ROWS (rows_in p - s * SECTION_ROWS)))
    (range_with_len 0 (length p.tiles))
