-- A tile of a row that is being filled
use Rattle.std.specs.Prelude.{◌≡◌, ◌+◌, ◌-◌, ◌*◌, ℕ, Some, List, [], ◌∷◌, ◌++◌, length, slice_get}
use Rattle.xs_rect.specs.Area.{Area}
use Rattle.xs_meaning.specs.Expressions.{Expr}
use Rattle.xs_plan.specs.Draft.{Draft, next_tile, with_root}
use Rattle.xs_demand.specs.Blocks.{Spread, spread, enter_rows}
use Rattle.xs_dryrun.specs.declared.rows.Rows.{Rows}
use Rattle.xs_dryrun.specs.Filling.{Filling, number_at}

-- a row with this root comes after the roots of others, which had entered so many expressions; all earlier rows are
-- filled, and this one on the tiles before one
pub record IsAtTile (drawings : ℕ) (roots : List Expr) (e : Expr) (l : List Spread) (rows : Rows) (d : Draft) (before t : ℕ) (area : Area) : Type 0 where
  pub filling : Filling drawings (roots ++ e ∷ []) l rows d
  pub start : before ≡ length (enter_rows roots [])
  pub on : slice_get d.plan.tiles t ≡ Some area
  pub filled : length d.plan.entries ≡ length d.plan.tiles * before + t * (length l - before)

-- only aliases were added
abbrev pub AddsOnly : Draft → Draft → Type 0
AddsOnly old new = new ≡ record old { plan = record old.plan { entries = new.plan.entries } }

-- the new expressions of the row up to one have their aliases on the tile
pub record FilledTo (old : Draft) (l : List Spread) (rows : Rows) (before j t : ℕ) (area : Area) (new : Draft) : Type 0 where
  pub only : AddsOnly old new
  pub fills : (drawings : ℕ) (roots : List Expr) (e : Expr) → IsAtTile drawings roots e l rows old before t area
      → Filling drawings (roots ++ e ∷ []) l rows new
      × (length new.plan.entries ≡ length new.plan.tiles * before + (t * (length l - before) + (j - before)))

-- the row's root has a number, nothing was added since the last root was given, and the tile's root is the next
pub record IsRowAt (drawings : ℕ) (roots : List Expr) (e : Expr) (l : List Spread) (rows : Rows) (d : Draft) (before t root : ℕ) (area : Area) : Type 0 where
  pub at : IsAtTile drawings roots e l rows d before t area
  pub is_root : slice_get l root ≡ Some (spread e 0)
  pub rooted : d.rooted ≡ length d.plan.entries
  pub tile_is_next : next_tile d ≡ t

-- a tile was filled, and got its root
pub record FillsTile (old new : Draft) (l : List Spread) (rows : Rows) (before t root : ℕ) (area : Area) : Type 0 where
  pub filled : Draft
  pub aliases : FilledTo old l rows before (length l) t area filled
  pub is : new ≡ with_root filled (number_at rows root t)
