-- What may be relied on in a plan
use Rattle.std.specs.Prelude.{◌≡◌, ◌<◌, ◌≤◌, ◌*◌, ◌^◌, ℕ, zero, suc, false, ℤ, pos, neg_ℤ, ◌≤ℤ◌, Some, IfSome, List, All, Contains, length, take, slice_get, slice_index}
use Rattle.xs_base.specs.declared.limits.TheConstants.{GREATEST_RADIUS}
use Rattle.xs_rect.specs.Area.{Area, IsRect}
use Rattle.xs_plan.specs.declared.limits.TheConstants.{LONGEST_ALIAS_SIDE, MOST_ROWS, MOST_TILES, MOST_BUILT}
use Rattle.xs_plan.specs.declared.job.Job.{Job}
use Rattle.xs_plan.specs.declared.job.Job.TheVariants as job
use Rattle.xs_plan.specs.Record.{Entry, PlanRecord, entry_at, root_at, rows_in, ports_of, input_rect, drawing_of, is_clear_job}
use Rattle.xs_plan.specs.Reads.{readers_of}
use Rattle.xs_plan.specs.Sections.{first_row}

-- an offset of a drawing along an axis
abbrev pub IsOffset : ℤ → Type 0
IsOffset z = (neg_ℤ (pos (2 ^ 27)) ≤ℤ z) × (z ≤ℤ pos (2 ^ 27))

-- what a job's own numbers may be, where there are so many tints
abbrev pub IsJob : ℕ → Job → Type 0
IsJob tints job.Clear = Unit {0}
IsJob tints (job.Leaf drawing dx dy) = IsOffset dx × IsOffset dy
IsJob tints (job.Tinted drawing dx dy tint) = IsOffset dx × IsOffset dy × (tint < tints)
IsJob tints (job.Card pixel) = Unit {0}
IsJob tints (job.Pair op) = Unit {0}
IsJob tints (job.Blur radius) = (1 ≤ radius) × (radius ≤ GREATEST_RADIUS)

abbrev pub HasSides : Area → Type 0
HasSides rect = (rect.w ≤ LONGEST_ALIAS_SIDE) × (rect.h ≤ LONGEST_ALIAS_SIDE)

-- an alias may read this one of some earlier aliases: it stands on the rectangle that the reader's job asks
-- for, and is not clear
pub record IsInput (entries : List Entry) (reader : Entry) (k : ℕ) : Type 0 where
  pub there : k < length entries
  pub rect : (entry_at entries k).rect ≡ input_rect reader.job reader.rect
  pub unclear : is_clear_job (entry_at entries k).job ≡ false

-- an alias may stand behind these earlier ones, where there are so many tints
pub record IsEntry (tints : ℕ) (entries : List Entry) (e : Entry) : Type 0 where
  pub ports : length e.inputs ≡ ports_of e.job
  pub inputs : All (IsInput entries e) e.inputs
  pub job : IsJob tints e.job
  pub valid : IsRect e.rect
  pub sides : HasSides e.rect

-- a way of so many reads leads from an alias down to another
unfoldable pub Leads : List Entry → ℕ → ℕ → ℕ → Type 0
Leads entries zero k last = k ≡ last
Leads entries (suc reads) k last =
    (input : ℕ) × Contains (entry_at entries k).inputs input × Leads entries reads input last

-- an alias reaches itself, and what its inputs reach
pub record Reaches (entries : List Entry) (k last : ℕ) : Type 0 where
  pub reads : ℕ
  pub way : Leads entries reads k last

-- a row reaches what the aliases of its tiles reach
pub record RowReaches (p : PlanRecord) (row k : ℕ) : Type 0 where
  pub tile : ℕ
  pub there : tile < length p.tiles
  pub reaches : Reaches p.entries (root_at p row tile) k

-- the ends of rows never fall, and none lies past the aliases
pub record AreEnds (ends : List ℕ) (aliases : ℕ) : Type 0 where
  pub rise : (row later end next : ℕ) → row ≤ later → slice_get ends row ≡ Some end → slice_get ends later ≡ Some next → end ≤ next
  pub within : All (λ end. end ≤ aliases) ends

-- the alias of a row and tile stands on the tile, and has come when the row ends
pub record IsRoot (p : PlanRecord) (row tile : ℕ) : Type 0 where
  pub there : root_at p row tile < slice_index p.ends row
  pub rect : slice_get p.tiles tile ≡ Some (entry_at p.entries (root_at p row tile)).rect

-- what may be relied on in a plan
pub record IsPlan (p : PlanRecord) : Type 0 where
  pub few_tiles : (1 ≤ length p.tiles) × (length p.tiles ≤ MOST_TILES)
  pub few_rows : (1 ≤ rows_in p) × (rows_in p ≤ MOST_ROWS)
  pub few_aliases : length p.entries ≤ MOST_BUILT
  -- each alias stands behind those that it reads
  pub entries : (k : ℕ) (e : Entry) → slice_get p.entries k ≡ Some e → IsEntry (length p.tints) (take k p.entries) e
  pub drawings : All (λ e. IfSome (drawing_of e.job) (λ d. d < p.drawings)) p.entries
  -- each row has an alias for each tile
  pub whole : length p.roots ≡ rows_in p * length p.tiles
  pub roots : (row tile : ℕ) → row < rows_in p → tile < length p.tiles → IsRoot p row tile
  pub ends : AreEnds p.ends (length p.entries)
  -- no alias is added in vain: each is read, and reached by the row in which it comes first
  pub read : (k : ℕ) → k < length p.entries → 1 ≤ readers_of p k
  pub first : (k : ℕ) → k < length p.entries → RowReaches p (first_row p k) k
