-- Which events are allowed in a state, and what they make of it
use Rattle.std.specs.Prelude.{◌≡◌, ◌<◌, ℕ, true, Some, ◌==◌, if◌then◌else◌, length, replicate}
use Rattle.xs_plan.specs.Record.{PlanRecord}
use Rattle.xs_plan.specs.Reads.{reads_in}
use Rattle.xs_core.specs.declared.event.Event.{Event}
use Rattle.xs_core.specs.declared.event.Event.TheVariants.{Claim, Finish, Abandon, Turn, Give, Retire, Clear}
use Rattle.xs_core.specs.declared.state.Phase.TheVariants.{Idle, Claimed, Ready, Lost}
use Rattle.xs_core.specs.declared.state.ReadState.TheVariants.{Waiting, InTurn, Served}
use Rattle.xs_core.specs.declared.state.TileState.TheVariants.{Absent, Held, Leaving}
use Rattle.xs_core.specs.States.{World, phase_of, read_of, tile_of, with_phase, with_read, with_tile, is_ready, seat_of, source_at, left, turns}

-- where a run begins
abbrev pub start : PlanRecord → World
start p =
    record {
      phases = replicate (length p.entries) Idle;
      reads = replicate (reads_in p) Waiting;
      tiles = replicate (length p.entries) Absent;
    }

-- the alias or the read of an event is one of the plan
abbrev pub IsOf : PlanRecord → Event → Type 0
IsOf p (Claim seat alias) = alias < length p.entries
IsOf p (Finish seat alias) = alias < length p.entries
IsOf p (Abandon seat alias) = alias < length p.entries
IsOf p (Turn seat read) = read < reads_in p
IsOf p (Give seat read) = read < reads_in p
IsOf p (Retire seat read) = read < reads_in p
IsOf p (Clear seat alias) = alias < length p.entries

-- a seat may serve a read: it is the seat's and waits, and what it reads is ready
abbrev pub MayServe : PlanRecord → World → ℕ → ℕ → Type 0
MayServe p w seat e =
    (seat_of p w e ≡ Some seat) × (read_of w e ≡ Waiting) × (is_ready (phase_of w (source_at p e)) ≡ true)

abbrev pub Allowed : PlanRecord → World → Event → Type 0
Allowed p w (Claim seat alias) = phase_of w alias ≡ Idle
Allowed p w (Finish seat alias) = phase_of w alias ≡ Claimed seat
Allowed p w (Abandon seat alias) = phase_of w alias ≡ Claimed seat
Allowed p w (Turn seat read) = MayServe p w seat read × (turns p w (source_at p read) ≡ 0)
Allowed p w (Give seat read) = read_of w read ≡ InTurn seat
Allowed p w (Retire seat read) = MayServe p w seat read
Allowed p w (Clear seat alias) = tile_of w alias ≡ Leaving seat

-- the tile of an alias leaves by a seat where none of its reads is open
abbrev pub left_by : PlanRecord → World → ℕ → ℕ → World
left_by p w seat k = if left p w k == 0 then with_tile w k (Leaving seat) else w

abbrev pub happens : PlanRecord → World → Event → World
happens p w (Claim seat alias) = with_phase w alias (Claimed seat)
happens p w (Finish seat alias) = with_tile (with_phase w alias (Ready seat)) alias Held
happens p w (Abandon seat alias) = with_phase w alias Lost
happens p w (Turn seat read) = with_read w read (InTurn seat)
happens p w (Give seat read) = with_read w read Waiting
happens p w (Retire seat read) = left_by p (with_read w read Served) seat (source_at p read)
happens p w (Clear seat alias) = with_tile w alias Absent
