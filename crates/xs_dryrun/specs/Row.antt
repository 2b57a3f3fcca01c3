-- A row that is being filled, tile by tile
use Rattle.std.specs.Prelude.{◌≡◌, ◌<◌, ◌≤◌, ◌+◌, ◌-◌, ◌*◌, ℕ, Some, List, [], ◌∷◌, ◌++◌, length, take, slice_get}
use Rattle.std.specs.List.{AllZip}
use Rattle.xs_meaning.specs.Expressions.{Expr}
use Rattle.xs_plan.specs.Draft.{Draft}
use Rattle.xs_demand.specs.Aliases.{aliases_of, on_tiles}
use Rattle.xs_demand.specs.Blocks.{Spread, spread, enter_rows}
use Rattle.xs_demand.specs.Shown.{StandsAt, root_aliases}
use Rattle.xs_dryrun.specs.declared.rows.Rows.{Rows}
use Rattle.xs_dryrun.specs.Filling.{Filling}

-- a row with this root comes after the roots of others, which had entered so many expressions; all earlier rows are
-- filled, and nothing of this one
pub record IsRowStart (drawings : ℕ) (roots : List Expr) (e : Expr) (l : List Spread) (rows : Rows) (d : Draft) (before root : ℕ) : Type 0 where
  pub filling : Filling drawings (roots ++ e ∷ []) l rows d
  pub start : before ≡ length (enter_rows roots [])
  pub is_root : slice_get l root ≡ Some (spread e 0)
  pub some : 1 ≤ length d.plan.tiles
  pub filled : length d.plan.entries ≡ length d.plan.tiles * before
  pub rooted : d.rooted ≡ length d.plan.entries
  pub given : AllZip (StandsAt (aliases_of d.plan.tiles (roots ++ e ∷ []))) (root_aliases d.plan.tiles roots) d.plan.roots
  pub room : length roots < d.rows

-- the row is filled on the tiles before one
pub record IsRowFilled (drawings : ℕ) (roots : List Expr) (e : Expr) (old : Draft) (l : List Spread) (rows : Rows) (before t : ℕ) (d : Draft) : Type 0 where
  pub filling : Filling drawings (roots ++ e ∷ []) l rows d
  pub filled : length d.plan.entries ≡ length d.plan.tiles * before + t * (length l - before)
  pub rooted : d.rooted ≡ length d.plan.entries
  pub given : AllZip (StandsAt (aliases_of d.plan.tiles (roots ++ e ∷ []))) (root_aliases d.plan.tiles roots ++ on_tiles (take t d.plan.tiles) e)
      d.plan.roots
  pub many : length d.plan.roots ≡ length roots * length d.plan.tiles + t
  pub within : t < length d.plan.tiles → d.plan.ends ≡ old.plan.ends
  pub ended : t ≡ length d.plan.tiles → d.plan.ends ≡ old.plan.ends ++ length d.plan.entries ∷ []

pub record FillsRowTo (old : Draft) (l : List Spread) (rows : Rows) (before root t : ℕ) (new : Draft) : Type 0 where
  pub tiles_kept : new.plan.tiles ≡ old.plan.tiles
  pub tints_kept : new.plan.tints ≡ old.plan.tints
  pub rows_kept : new.rows ≡ old.rows
  pub fills : (drawings : ℕ) (roots : List Expr) (e : Expr) → IsRowStart drawings roots e l rows old before root
      → IsRowFilled drawings roots e old l rows before t new
