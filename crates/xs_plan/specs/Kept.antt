-- What is kept beside a plan, so that each question is answered by one look
use Rattle.std.specs.Prelude.{◌≡◌, ◌<◌, ◌≤◌, ◌+◌, ◌*◌, ◌/◌, ◌%◌, ◌==◌, ◌^◌, ℕ, Bool, false, Option, Some, None, List, ◌++◌, length, take, slice_get, slice_set, slice_index, slice_index_or, count_by}
use Rattle.std.specs.List.{filter_map}
use Rattle.xs_base.specs.Listed.{is_listed}
use Rattle.xs_base.specs.Once.{each_once, with_one}
use Rattle.xs_pixel.specs.Channels.{Channels}
use Rattle.xs_rect.specs.Area.{Area}
use Rattle.xs_plan.specs.declared.limits.TheConstants.{MOST_ROWS, MOST_TILES, MOST_BUILT}
use Rattle.xs_plan.specs.Record.{Entry, PlanRecord, entry_at, drawing_of}
use Rattle.xs_plan.specs.Reads.{port_sources}
use Rattle.xs_plan.specs.Sections.{first_row, first_section, sections_in}
use Rattle.xs_plan.specs.Needed.{needs_before}
use Rattle.xs_plan.specs.Valid.{IsEntry, IsPlan, AreEnds, Reaches}
use Rattle.xs_plan.specs.Draft.{Draft, AreLast}

-- aliases, and those of them that the rows' tiles read
pub record Rooted : Type 0 where
  pub entries : List Entry
  pub roots : List ℕ

-- the parts of a plan and of a draft as they are kept
abbrev pub plan_of : List Area → Rooted → List ℕ → List (List Channels) → ℕ → PlanRecord
plan_of tiles aliases ends tints drawings =
    record { tiles = tiles; entries = aliases.entries; roots = aliases.roots; ends = ends; tints = tints; drawings = drawings }

-- ---- reads

-- how many ports the aliases before one have
abbrev pub reads_before : List Entry → ℕ → ℕ
reads_before entries k = length (port_sources (take k entries))

-- a read at a port is one of an alias
pub record IsOwner (entries : List Entry) (read k : ℕ) : Type 0 where
  pub there : k < length entries
  pub from : reads_before entries k ≤ read
  pub below : read < reads_before entries k + length (entry_at entries k).inputs

-- the reads at ports before each alias, the alias of each such read, and how often each alias is read
pub record AreReads (entries : List Entry) (roots starts owners readers : List ℕ) : Type 0 where
  pub few : length entries ≤ MOST_BUILT
  pub few_roots : length roots ≤ MOST_ROWS * MOST_TILES
  pub few_ports : length (port_sources entries) ≤ 2 * length entries
  pub starts_many : length starts ≡ length entries
  pub start : (k : ℕ) → k < length entries → slice_index starts k ≡ reads_before entries k
  pub owners_many : length owners ≡ length (port_sources entries)
  pub owner : (read : ℕ) → read < length owners → IsOwner entries read (slice_index owners read)
  pub readers_many : length readers ≡ length entries
  pub counts : (k : ℕ) → slice_index readers k ≡ count_by (λ source. source == k) (port_sources entries ++ roots)

-- how often each is read, with one read more, if there is one
abbrev pub counted : List ℕ → Option ℕ → List ℕ
counted readers None = readers
counted readers (Some k) = slice_set readers k (slice_index readers k + 1)

-- ---- a draft

abbrev pub draft_of : List Area → Rooted → List ℕ → List (List Channels) → ℕ → ℕ → Draft
draft_of tiles aliases ends tints rows rooted =
    record {
      plan = plan_of tiles aliases ends tints 0;
      rows = rows;
      rooted = rooted;
    }

-- the alias of a place among the roots has come, also when its row ends, and stands on its tile
pub record IsRootAt (d : Draft) (place : ℕ) : Type 0 where
  pub there : slice_index d.plan.roots place < d.rooted
  pub ended : place / length d.plan.tiles < length d.plan.ends
      → slice_index d.plan.roots place < slice_index d.plan.ends (place / length d.plan.tiles)
  pub rect : slice_get d.plan.tiles (place % length d.plan.tiles)
      ≡ Some (entry_at d.plan.entries (slice_index d.plan.roots place)).rect

-- the row after which an alias is there has a root that reaches it
pub record IsReached (d : Draft) (k : ℕ) : Type 0 where
  pub place : ℕ
  pub there : place < length d.plan.roots
  pub row : place / length d.plan.tiles ≡ first_row d.plan k
  pub reaches : Reaches d.plan.entries (slice_index d.plan.roots place) k

-- what holds while a plan is built, and the first section of each alias
pub record IsDraft (d : Draft) (firsts : List ℕ) : Type 0 where
  pub few_tiles : (1 ≤ length d.plan.tiles) × (length d.plan.tiles ≤ MOST_TILES)
  pub few_rows : (1 ≤ d.rows) × (d.rows ≤ MOST_ROWS)
  pub few_aliases : length d.plan.entries ≤ MOST_BUILT
  pub few_tints : length d.plan.tints < 2 ^ 32
  pub entries : (k : ℕ) (e : Entry) → slice_get d.plan.entries k ≡ Some e → IsEntry (length d.plan.tints) (take k d.plan.entries) e
  pub few_roots : length d.plan.roots ≤ d.rows * length d.plan.tiles
  pub rooted : d.rooted ≤ length d.plan.entries
  pub all_rooted : length d.plan.roots ≡ d.rows * length d.plan.tiles → d.rooted ≡ length d.plan.entries
  pub ends_many : length d.plan.ends ≡ length d.plan.roots / length d.plan.tiles
  pub ends : AreEnds d.plan.ends d.rooted
  pub roots : (place : ℕ) → place < length d.plan.roots → IsRootAt d place
  pub reached : (k : ℕ) → k < d.rooted → IsReached d k
  pub firsts_many : length firsts ≡ length d.plan.entries
  pub first : (k : ℕ) → k < length d.plan.entries → slice_index firsts k ≡ first_section d.plan k

-- ---- the drawings that sections are the first to need

-- the drawings that aliases need, one after another
abbrev pub drawings_in : List Entry → List ℕ
drawings_in entries = filter_map (λ e. drawing_of e.job) entries

-- drawings that are known, and one that an alias needs, if it needs one and that is new
abbrev pub with_drawing : List ℕ → Option ℕ → List ℕ
with_drawing known None = known
with_drawing known (Some d) = with_one known d

-- a flag for each drawing: whether it is known
pub record AreFlags (flags : List Bool) (known : List ℕ) : Type 0 where
  pub flag : (d : ℕ) → d < length flags → slice_index_or flags d false ≡ is_listed known d

-- a count of drawings is that of the aliases which come in sections before one; each alias has its first
-- section in a list
pub record IsStart (entries : List Entry) (firsts : List ℕ) (s start : ℕ) : Type 0 where
  pub aliases : ℕ
  pub within : aliases ≤ length entries
  pub before : (k : ℕ) → k < aliases → slice_index firsts k < s
  pub from : (k : ℕ) → aliases ≤ k → k < length entries → s ≤ slice_index firsts k
  pub is : start ≡ length (each_once (drawings_in (take aliases entries)))

-- each count in a list is that of the section at its place
pub record AreStarts (entries : List Entry) (firsts starts : List ℕ) : Type 0 where
  pub start : (s : ℕ) → s < length starts → IsStart entries firsts s (slice_index starts s)

-- the first section of each alias, which never falls and is one of so many
pub record AreFirsts (entries : List Entry) (firsts : List ℕ) (sections : ℕ) : Type 0 where
  pub many : length firsts ≡ length entries
  pub rise : (k later : ℕ) → k ≤ later → later < length entries → slice_index firsts k ≤ slice_index firsts later
  pub below : (k : ℕ) → k < length entries → slice_index firsts k < sections

-- ---- the last section that needs each drawing

-- the first section of the last one of some first aliases that needs a drawing, or none where none needs it
abbrev pub IsLastAmong : List Entry → List ℕ → ℕ → ℕ → Option ℕ → Type 0
IsLastAmong entries firsts count d None = (k : ℕ) → k < count → ¬ (drawing_of (entry_at entries k).job ≡ Some d)
IsLastAmong entries firsts count d (Some s) =
    (k : ℕ) × (k < count) × (drawing_of (entry_at entries k).job ≡ Some d) × (s ≡ slice_index firsts k)
    × ((later : ℕ) → k < later → later < count → ¬ (drawing_of (entry_at entries later).job ≡ Some d))

-- a section told of a drawing, if there is one
abbrev pub with_section : List (Option ℕ) → Option ℕ → ℕ → List (Option ℕ)
with_section last None s = last
with_section last (Some d) s = slice_set last d (Some s)

-- the aliases of a plan, and a list that tells the first section of each
pub record TellFirsts (p : PlanRecord) (entries : List Entry) (firsts : List ℕ) : Type 0 where
  pub aliases : p.entries ≡ entries
  pub first : (k : ℕ) → k < length p.entries → slice_index firsts k ≡ first_section p k
  pub below : (k : ℕ) → k < length p.entries → first_section p k < sections_in p

-- ---- a plan

-- the drawings of a plan, each once in the order in which sections need them; how many of these there are
-- before each section, and at the end
pub record AreNews (p : PlanRecord) (news starts : List ℕ) : Type 0 where
  pub each : news ≡ each_once (needs_before p (sections_in p))
  pub starts_many : length starts ≡ sections_in p + 1
  pub start : (s : ℕ) → s ≤ sections_in p → slice_index starts s ≡ length (each_once (needs_before p s))

-- the first section of each alias, the new drawings of each section, and the last section of each drawing
pub record IsKept (p : PlanRecord) (firsts news starts : List ℕ) (last : List (Option ℕ)) : Type 0 where
  pub plan : IsPlan p
  pub firsts_many : length firsts ≡ length p.entries
  pub first : (k : ℕ) → k < length p.entries → slice_index firsts k ≡ first_section p k
  pub new : AreNews p news starts
  pub lasts : AreLast p last
  pub few_drawings : p.drawings < 2 ^ 32
  pub few_tints : length p.tints < 2 ^ 32
