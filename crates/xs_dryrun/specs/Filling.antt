-- A plan that is being filled with what rows have entered
use Rattle.std.specs.Prelude.{◌≡◌, ◌<◌, ◌≤◌, ◌+◌, ◌*◌, ◌^◌, ℕ, Option, Some, None, List, [], length, slice_get, slice_index}
use Rattle.xs_pixel.specs.Channels.{Channels}
use Rattle.xs_rect.specs.Area.{Area, IsRect, grown}
use Rattle.xs_meaning.specs.Expressions.{Expr, reach_of}
use Rattle.xs_plan.specs.declared.limits.TheConstants.{MOST_ALIASES, FARTHEST_REACH}
use Rattle.xs_plan.specs.Record.{Entry}
use Rattle.xs_plan.specs.Valid.{HasSides}
use Rattle.xs_plan.specs.Draft.{Draft, with_entry}
use Rattle.xs_demand.specs.Aliases.{Alias, aliases_of}
use Rattle.xs_demand.specs.Blocks.{Spread, enter_rows, inputs_under, number_on, GrowApart}
use Rattle.xs_demand.specs.Fit.{IsFit}
use Rattle.xs_demand.specs.Shown.{StandsAt, ShowsAlias, tints_shown}
use Rattle.xs_entered.specs.Entered.{spread_at, tints_entered}
use Rattle.xs_dryrun.specs.declared.rows.Rows.{Rows}
use Rattle.xs_dryrun.specs.Numbers.{AreNumbers}

-- ---- numbers of inputs

-- the number of the alias of an expression on a tile
abbrev pub number_at : Rows → ℕ → ℕ → ℕ
number_at rows j t = slice_index rows.firsts.items j + t * slice_index rows.strides.items j

-- the numbers of so many expressions are held, and those on a tile fit
pub record MayTell (rows : Rows) (count t : ℕ) : Type 0 where
  pub firsts_many : length rows.firsts.items ≡ count
  pub strides_many : length rows.strides.items ≡ count
  pub fits : (j : ℕ) → j < count → number_at rows j t < 2 ^ 32

-- the inputs of the expression with a number
abbrev pub inputs_at : List Spread → ℕ → List Spread
inputs_at l j = inputs_under (spread_at l j).expr (spread_at l j).growth

-- the number of the alias of an input on a tile: the input was entered earlier; none where there is no such input
abbrev pub IsInputOn : List Spread → Rows → ℕ → ℕ → ℕ → Option ℕ → Type 0
IsInputOn l rows j t port None = length (inputs_at l j) ≤ port
IsInputOn l rows j t port (Some k) = (n : ℕ) × (n < j) × (slice_get (inputs_at l j) port ≡ Some (spread_at l n)) × (k ≡ number_at rows n t)

-- ---- the plan

-- tiles that stay apart however they are grown, and that stay rectangles as far as rows may look
pub record IsFrame (areas : List Area) : Type 0 where
  pub apart : GrowApart areas
  pub near : (t growth : ℕ) (area : Area) → slice_get areas t ≡ Some area → growth ≤ FARTHEST_REACH
      → IsRect (grown area growth) × HasSides (grown area growth)

-- an expression as rows enter it, where there are so many drawings
pub record IsSpread (drawings : ℕ) (x : Spread) : Type 0 where
  pub fit : IsFit drawings x.expr
  pub near : x.growth + reach_of x.expr ≤ FARTHEST_REACH

-- an entry is that of the alias with its number
pub record Shows (l : List Alias) (tints : List (List Channels)) (k : ℕ) (e : Entry) : Type 0 where
  pub of : Alias
  pub stands : StandsAt l of k
  pub shows : ShowsAlias l tints of e

-- a plan has some of the aliases of rows with these roots, which have entered these expressions
pub record Filling (drawings : ℕ) (roots : List Expr) (l : List Spread) (rows : Rows) (d : Draft) : Type 0 where
  pub frame : IsFrame d.plan.tiles
  pub entered : l ≡ enter_rows roots []
  pub spreads : (j : ℕ) → j < length l → IsSpread drawings (spread_at l j)
  pub numbers : AreNumbers (length d.plan.tiles) roots rows.firsts.items rows.strides.items
  pub few : length (aliases_of d.plan.tiles roots) ≤ MOST_ALIASES
  pub tints : tints_shown d.plan ≡ tints_entered l
  pub entries : (k : ℕ) (e : Entry) → slice_get d.plan.entries k ≡ Some e
      → Shows (aliases_of d.plan.tiles roots) (tints_shown d.plan) k e

-- the next alias is that of an expression on a tile
pub record IsNext (drawings : ℕ) (roots : List Expr) (l : List Spread) (rows : Rows) (d : Draft) (j t : ℕ) (area : Area) : Type 0 where
  pub filling : Filling drawings roots l rows d
  pub there : j < length l
  pub on : slice_get d.plan.tiles t ≡ Some area
  pub next : length d.plan.entries ≡ number_on (length d.plan.tiles) roots [] j t

-- an alias was added, and so the plan is filled on
pub record AddsNext (old new : Draft) (l : List Spread) (rows : Rows) (j t : ℕ) (area : Area) : Type 0 where
  pub entry : Entry
  pub added : new ≡ with_entry old entry
  pub fills : (drawings : ℕ) (roots : List Expr) → IsNext drawings roots l rows old j t area → Filling drawings roots l rows new
