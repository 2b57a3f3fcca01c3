-- The limits that a row passes on its tiles, by arithmetic
use Rattle.std.specs.Prelude.{◌≡◌, ◌<◌, ◌≤◌, ℕ, ◌+◌, ◌-◌, ◌*◌, nat_lt, Option, Some, None, List, [], length, if◌then◌else◌}
use Rattle.xs_rect.specs.Area.{Area}
use Rattle.xs_meaning.specs.Expressions.{Expr, reach_of}
use Rattle.xs_plan.specs.declared.limits.TheConstants.{MOST_ALIASES, MOST_READS, FARTHEST_REACH}
use Rattle.xs_demand.specs.Blocks.{Spread, enter, enter_rows, inputs_entered, GrowApart}
use Rattle.xs_demand.specs.Limits.{Limit, Reach, Aliases, Reads}
use Rattle.xs_dryrun.specs.declared.limits.Counts.{Counts}
use Rattle.xs_dryrun.specs.declared.limits.What.{What}
use Rattle.xs_dryrun.specs.declared.limits.What.TheVariants as what

-- a limit as it is told
abbrev pub what_of : Limit → What
what_of Reach = what.Reach
what_of Aliases = what.Aliases
what_of Reads = what.Reads

-- the greatest number that there may be of what a row is tried for
abbrev pub greatest_of : What → ℕ
greatest_of what.Reach = FARTHEST_REACH
greatest_of what.Aliases = MOST_ALIASES
greatest_of what.Reads = MOST_READS
greatest_of what.SectionBytes = 0

-- how many there are after a tile of a row: on all tiles what was there before the row, and on the tiles up to this
-- one what is there after it besides
abbrev pub through : (tiles tile before after : ℕ) → ℕ
through tiles tile before after = tiles * before + (tile + 1) * (after - before)

-- the limit that is passed on a tile of a row; rows and tiles count from 0
abbrev pub passed_by : (tiles row : ℕ) → Counts → Counts → ℕ → Option What
passed_by tiles row before after tile =
    if nat_lt MOST_ALIASES (through tiles tile before.spreads after.spreads)
    then Some what.Aliases
    else if nat_lt MOST_READS (through tiles tile before.inputs after.inputs + (row * tiles + tile + 1))
    then Some what.Reads
    else None

-- what was entered is counted
pub record AreCounts (l : List Spread) (c : Counts) : Type 0 where
  pub spreads : c.spreads ≡ length l
  pub inputs : c.inputs ≡ inputs_entered l

-- a row with this root comes after the roots of others, on so many tiles; these are the counts before and after it
pub record IsRowOf (areas : List Area) (roots : List Expr) (e : Expr) (tiles row : ℕ) (before after : Counts) : Type 0 where
  pub apart : GrowApart areas
  pub many : tiles ≡ length areas
  pub place : row ≡ length roots
  pub reach : reach_of e ≤ FARTHEST_REACH
  pub counted_before : AreCounts (enter_rows roots []) before
  pub counted_after : AreCounts (enter e 0 (enter_rows roots [])) after

-- a limit is passed on a tile, and none on the tiles before it
pub record PassedOn (tiles row : ℕ) (before after : Counts) (w : What) : Type 0 where
  pub tile : ℕ
  pub among : tile < tiles
  pub passed : passed_by tiles row before after tile ≡ Some w
  pub earlier : (other : ℕ) → other < tile → passed_by tiles row before after other ≡ None
