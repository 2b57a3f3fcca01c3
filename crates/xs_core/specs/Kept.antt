-- What every state of a cache keeps, and what is kept beside it
use Rattle.std.specs.Prelude.{◌≡◌, ◌<◌, ◌≤◌, ◌+◌, ℕ, Bool, true, false, List, length, slice_index, slice_index_or}
use Rattle.xs_plan.specs.Record.{PlanRecord}
use Rattle.xs_plan.specs.Reads.{reads_in, readers_of}
use Rattle.xs_plan.specs.Valid.{IsPlan}
use Rattle.xs_core.specs.declared.event.Event.{Event}
use Rattle.xs_core.specs.declared.event.Stepped.{Stepped}
use Rattle.xs_core.specs.declared.event.Stepped.TheVariants.{Done, NotAllowed}
use Rattle.xs_core.specs.declared.state.Phase.{Phase}
use Rattle.xs_core.specs.declared.state.ReadState.{ReadState}
use Rattle.xs_core.specs.declared.state.TileState.{TileState}
use Rattle.xs_core.specs.declared.state.TileState.TheVariants.{Absent, Held, Leaving}
use Rattle.xs_core.specs.Counts.{one_if}
use Rattle.xs_core.specs.Events.{Allowed, happens}
use Rattle.xs_core.specs.States.{World, phase_of, read_of, tile_of, is_ready, is_waiting, source_at, left, served, turns}

-- where the tile of an alias may be, if so many reads are open: where the alias is ready, it is held while some are,
-- and then leaves or is gone; elsewhere there is none
abbrev pub Fits : Bool → ℕ → TileState → Type 0
Fits true reads Held = 0 < reads
Fits true reads (Leaving seat) = reads ≡ 0
Fits true reads Absent = reads ≡ 0
Fits false reads Absent = Unit {0}
Fits false reads Held = ⊥
Fits false reads (Leaving seat) = ⊥

pub record Kept (p : PlanRecord) (w : World) : Type 0 where
  pub phases_many : length w.phases ≡ length p.entries
  pub reads_many : length w.reads ≡ reads_in p
  pub tiles_many : length w.tiles ≡ length p.entries
  -- what is read, or was, is ready
  pub ready : (e : ℕ) → is_waiting (read_of w e) ≡ false → is_ready (phase_of w (source_at p e)) ≡ true
  -- one read of an alias at most is in turn
  pub one_turn : (k : ℕ) → turns p w k ≤ 1
  pub fits : (k : ℕ) → Fits (is_ready (phase_of w k)) (left p w k) (tile_of w k)
  -- open are the reads that are not served
  pub counted : (k : ℕ) → left p w k + served p w k ≡ readers_of p k

-- how many reads of each alias are open, and whether one is in turn, are told beside a state
pub record IsKept (p : PlanRecord) (w : World) (lefts : List ℕ) (flags : List Bool) : Type 0 where
  pub plan : IsPlan p
  pub kept : Kept p w
  pub left_many : length lefts ≡ length p.entries
  pub count : (k : ℕ) → k < length p.entries → slice_index lefts k ≡ left p w k
  pub turning_many : length flags ≡ length p.entries
  pub turning : (k : ℕ) → k < length p.entries → one_if (slice_index_or flags k false) ≡ turns p w k

-- a plan and a state of its cache
pub record CoreRecord : Type 0 where
  pub plan : PlanRecord
  pub world : World

abbrev pub core_in : PlanRecord → World → CoreRecord
core_in p w = record { plan = p; world = w }

abbrev pub world : List Phase → List ReadState → List TileState → World
world phases reads tiles = record { phases = phases; reads = reads; tiles = tiles }

-- what is told of an event: it was allowed and has happened, or it was not and nothing has changed
abbrev pub Tells : CoreRecord → Event → Stepped → CoreRecord → Type 0
Tells old event Done new = Allowed old.plan old.world event × (new ≡ core_in old.plan (happens old.plan old.world event))
Tells old event NotAllowed new = (¬ Allowed old.plan old.world event) × (new ≡ old)

-- the numbers of a list tell how often each alias is read
pub record IsCounted (p : PlanRecord) (readers : List ℕ) : Type 0 where
  pub many : length readers ≡ length p.entries
  pub count : (k : ℕ) → k < length p.entries → slice_index readers k ≡ readers_of p k
