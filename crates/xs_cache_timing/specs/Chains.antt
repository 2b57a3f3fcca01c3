-- The plan whose aliases each read the one before
use Rattle.std.specs.Prelude.{◌≡◌, ◌<◌, ◌+◌, ℕ, false, [], ◌∷◌, All, IfSome, length}
use Rattle.xs_rect.specs.Area.{Area}
use Rattle.xs_plan.specs.Record.{entry_at, drawing_of, is_clear_job}
use Rattle.xs_plan.specs.Valid.{Reaches}
use Rattle.xs_plan.specs.Draft.{Draft}

-- one row of one tile is built, and has no root yet; this alias is the last one, stands on the tile and reaches all;
-- no drawing is needed but drawing 0
pub record IsChain (d : Draft) (k : ℕ) (tile : Area) : Type 0 where
  pub tiles : d.plan.tiles ≡ tile ∷ []
  pub rows : d.rows ≡ 1
  pub roots : d.plan.roots ≡ []
  pub last : length d.plan.entries ≡ k + 1
  pub on : (entry_at d.plan.entries k).rect ≡ tile
  pub unclear : is_clear_job (entry_at d.plan.entries k).job ≡ false
  pub reaches : (j : ℕ) → j < length d.plan.entries → Reaches d.plan.entries k j
  pub drawn : All (λ e. IfSome (drawing_of e.job) (λ d. d < 1)) d.plan.entries
