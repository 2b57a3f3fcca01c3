-- The tiles that a cache holds
use Rattle.std.specs.Prelude.{◌≡◌, ◌<◌, ◌^◌, ℕ, Bool, true, false, ◌==◌, Option, Some, None, List, is_some, length, slice_index_or, if◌then◌else◌}
use Rattle.xs_pixel.specs.Picture.{Pictures}
use Rattle.xs_plan.specs.Record.{PlanRecord}
use Rattle.xs_raster.specs.declared.tile.Tile.{Tile}
use Rattle.xs_core.specs.declared.event.Event.TheVariants.{Retire, Clear}
use Rattle.xs_core.specs.declared.state.TileState.{TileState}
use Rattle.xs_core.specs.declared.state.TileState.TheVariants.{Held, Leaving}
use Rattle.xs_core.specs.States.{World, tile_of, source_at, left}
use Rattle.xs_core.specs.Events.{happens}
use Rattle.xs_core.specs.Calls.{HoldsTile}

abbrev pub is_held : TileState → Bool
is_held Held = true
is_held _ = false

abbrev pub is_leaving : TileState → Bool
is_leaving (Leaving seat) = true
is_leaving _ = false

-- the tile of an alias, if there is one
abbrev pub tile_at : List (Option Tile) → ℕ → Option Tile
tile_at tiles k = slice_index_or tiles k None

-- tiles stand exactly where a state says that they are held, each with the value of its alias
pub record IsStored (told : Option Pictures) (p : PlanRecord) (w : World) (tiles : List (Option Tile)) : Type 0 where
  pub many : length tiles ≡ length p.entries
  pub states_many : length w.tiles ≡ length p.entries
  pub few : length tiles < 2 ^ 32
  pub values : (k : ℕ) (t : Tile) → tile_at tiles k ≡ Some t → HoldsTile told p k t
  pub there : (k : ℕ) → is_some (tile_at tiles k) ≡ is_held (tile_of w k)

-- the chief has served a read; after the last one of an alias it has let the tile go
abbrev pub retired : PlanRecord → World → ℕ → World
retired p w e =
    if left p (happens p w (Retire 0 e)) (source_at p e) == 0
    then happens p (happens p w (Retire 0 e)) (Clear 0 (source_at p e))
    else happens p w (Retire 0 e)
