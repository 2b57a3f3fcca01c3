-- The plan whose making is timed
use Rattle.std.specs.Prelude.{◌≡◌, ◌<◌, ◌+◌, ℕ, pos, false, Some, length, replicate}
use Rattle.xs_rect.specs.Area.{Area, area, grown}
use Rattle.xs_plan.specs.Record.{entry_at, drawing_of, is_clear_job}
use Rattle.xs_plan.specs.Draft.{Draft, ReachesNew}
use Rattle.xs_timing.specs.declared.plans.TheConstants.{TILES, ROWS}

-- the tile on which all is, and what a blur of radius 1 reads there
abbrev pub tile_area : Area
tile_area = area (pos 0) (pos 0) 64 64

abbrev pub wide_area : Area
wide_area = grown tile_area 1

-- the rows and tiles of the plan; and that no drawing is needed but drawing 0, which the first alias needs
pub record IsMade (d : Draft) : Type 0 where
  pub tiles : d.plan.tiles ≡ replicate TILES tile_area
  pub rows : d.rows ≡ ROWS
  pub needs : (k x : ℕ) → k < length d.plan.entries → drawing_of (entry_at d.plan.entries k).job ≡ Some x → x ≡ 0
  pub first : 0 < length d.plan.entries → drawing_of (entry_at d.plan.entries 0).job ≡ Some 0

-- an alias is the last one, and reaches those that were added since the last root
pub record IsLast (d : Draft) (k : ℕ) (rect : Area) : Type 0 where
  pub last : k + 1 ≡ length d.plan.entries
  pub on : (entry_at d.plan.entries k).rect ≡ rect
  pub unclear : is_clear_job (entry_at d.plan.entries k).job ≡ false
  pub reaches : ReachesNew d k
