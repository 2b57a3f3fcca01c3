-- Tiles in slots that no seat reaches any more
use Rattle.std.specs.Prelude.{ℕ, Option, None, List, is_some, slice_index_or}
use Rattle.xs_raster.specs.declared.tile.Tile.{Tile}
use Rattle.xs_core.specs.Counts.{how_many}

-- how many of the first slots have a tile
abbrev pub tiles_below : ℕ → List (Option Tile) → ℕ
tiles_below n slots = how_many n (λ k. is_some (slice_index_or slots k None))
