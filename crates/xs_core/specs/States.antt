-- The state of a cache: how far each alias of a plan and each read is, and where each tile is
use Rattle.std.specs.Prelude.{ℕ, Bool, true, false, ◌&&◌, ◌==◌, Option, Some, None, List, slice_index, slice_index_or, slice_set}
use Rattle.xs_plan.specs.declared.job.Reader.{Reader}
use Rattle.xs_plan.specs.declared.job.Reader.TheVariants.{Port, Root}
use Rattle.xs_plan.specs.Record.{PlanRecord}
use Rattle.xs_plan.specs.Reads.{edge, edges, sources, reads_in}
use Rattle.xs_core.specs.declared.state.Phase.{Phase}
use Rattle.xs_core.specs.declared.state.Phase.TheVariants.{Idle, Claimed, Ready, Lost}
use Rattle.xs_core.specs.declared.state.ReadState.{ReadState}
use Rattle.xs_core.specs.declared.state.ReadState.TheVariants.{Waiting, InTurn, Served}
use Rattle.xs_core.specs.declared.state.TileState.{TileState}
use Rattle.xs_core.specs.declared.state.TileState.TheVariants.{Absent}
use Rattle.xs_core.specs.Counts.{how_many}

-- the phase of each alias, the state of each read, and that of the tile of each alias, by number
pub record World : Type 0 where
  pub phases : List Phase
  pub reads : List ReadState
  pub tiles : List TileState

abbrev pub phase_of : World → ℕ → Phase
phase_of w k = slice_index_or w.phases k Idle

abbrev pub read_of : World → ℕ → ReadState
read_of w e = slice_index_or w.reads e Waiting

abbrev pub tile_of : World → ℕ → TileState
tile_of w k = slice_index_or w.tiles k Absent

-- the same with another state of one of them
abbrev pub with_phase : World → ℕ → Phase → World
with_phase w k state = record w { phases = slice_set w.phases k state }

abbrev pub with_read : World → ℕ → ReadState → World
with_read w e state = record w { reads = slice_set w.reads e state }

abbrev pub with_tile : World → ℕ → TileState → World
with_tile w k state = record w { tiles = slice_set w.tiles k state }

-- ---- what a state is

abbrev pub is_idle : Phase → Bool
is_idle Idle = true
is_idle _ = false

abbrev pub is_started : Phase → Bool
is_started Idle = false
is_started _ = true

abbrev pub is_ready : Phase → Bool
is_ready (Ready seat) = true
is_ready _ = false

abbrev pub is_lost : Phase → Bool
is_lost Lost = true
is_lost _ = false

-- the seat that has claimed an alias and not given it up
abbrev pub seat_in : Phase → Option ℕ
seat_in (Claimed seat) = Some seat
seat_in (Ready seat) = Some seat
seat_in _ = None

abbrev pub is_waiting : ReadState → Bool
is_waiting Waiting = true
is_waiting _ = false

abbrev pub is_in_turn : ReadState → Bool
is_in_turn (InTurn seat) = true
is_in_turn _ = false

abbrev pub is_served : ReadState → Bool
is_served Served = true
is_served _ = false

abbrev pub is_open : ReadState → Bool
is_open Served = false
is_open _ = true

-- ---- reads

-- the alias that a read reads
abbrev pub source_at : PlanRecord → ℕ → ℕ
source_at p e = slice_index (sources p) e

-- who makes a read
abbrev pub reader_at : PlanRecord → ℕ → Reader
reader_at p e = (slice_index_or (edges p) e (edge 0 (Root 0 0))).reader

-- the seat to which the reads of a reader belong: that which claimed the reader; for a row's tile seat 0, the chief
abbrev pub seat_of_reader : World → Reader → Option ℕ
seat_of_reader w (Port alias port) = seat_in (phase_of w alias)
seat_of_reader w (Root row tile) = Some 0

abbrev pub seat_of : PlanRecord → World → ℕ → Option ℕ
seat_of p w e = seat_of_reader w (reader_at p e)

-- how many reads of an alias are in a state that passes a test
abbrev pub reads_where : (ReadState → Bool) → PlanRecord → World → ℕ → ℕ
reads_where passes p w k = how_many (reads_in p) (λ e. (source_at p e == k) && passes (read_of w e))

-- how many reads of an alias are open, that is not served
abbrev pub left : PlanRecord → World → ℕ → ℕ
left = reads_where is_open

-- how many are served
abbrev pub served : PlanRecord → World → ℕ → ℕ
served = reads_where is_served

-- how many are in turn
abbrev pub turns : PlanRecord → World → ℕ → ℕ
turns = reads_where is_in_turn
