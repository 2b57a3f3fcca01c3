-- The limits of a demand
use Rattle.std.specs.Prelude.{◌≡◌, ◌<◌, ℕ, ◌+◌, ◌*◌, nat_lt, Option, Some, None, List, [], ◌∷◌, length, take, map, flat_map, slice_index_or, if◌then◌else◌}
use Rattle.std.specs.List.{range_with_len}
use Rattle.std.specs.Option.{option_or}
use Rattle.xs_rect.specs.Area.{Area}
use Rattle.xs_meaning.specs.Expressions.{Expr, Clear, reach_of}
use Rattle.xs_plan.specs.declared.limits.TheConstants.{MOST_ALIASES, MOST_READS, FARTHEST_REACH}
use Rattle.xs_demand.specs.Aliases.{Alias, inputs_in, visit, visit_tiles, visit_rows}

-- what may be too much
pub data Limit : Type 0 where
  Reach : Limit
  Aliases : Limit
  Reads : Limit

-- the limit that is passed with a root, where these aliases have been visited and so many rows and tiles: the
-- root looks too far beyond its tile, or there are too many aliases, or else too many reads, one for each input
-- and one for each row and tile
abbrev pub limit_passed : Expr → List Alias → ℕ → Option Limit
limit_passed root l visited =
    if nat_lt FARTHEST_REACH (reach_of root)
    then Some Reach
    else if nat_lt MOST_ALIASES (length l)
    then Some Aliases
    else if nat_lt MOST_READS (inputs_in l + visited) then Some Reads else None

abbrev pub root_in : List Expr → ℕ → Expr
root_in roots row = slice_index_or roots row Clear

-- the aliases after a row and tile; rows and tiles count from 0
unfoldable pub aliases_through : List Area → List Expr → ℕ → ℕ → List Alias
aliases_through tiles roots row tile =
    visit_tiles (root_in roots row) (take (tile + 1) tiles) (visit_rows tiles (take row roots) [])

-- the limit that is passed at a row and tile
abbrev pub limit_at : List Area → List Expr → ℕ → ℕ → Option Limit
limit_at tiles roots row tile =
    limit_passed (root_in roots row) (aliases_through tiles roots row tile) (row * length tiles + tile + 1)

abbrev pub first_some : {A : Type 0} → List (Option A) → Option A
first_some [] = None
first_some (None ∷ xs) = first_some xs
first_some (Some x ∷ xs) = Some x

-- the limit that is passed first, by rows and then tiles, or none
unfoldable pub first_limit : List Area → List Expr → Option Limit
first_limit tiles roots =
    first_some
    (flat_map (λ row. map (limit_at tiles roots row) (range_with_len 0 (length tiles))) (range_with_len 0 (length roots)))

-- no limit is passed at any row and tile
abbrev pub NonePassed : List Area → List Expr → Type 0
NonePassed tiles roots = (row tile : ℕ) → row < length roots → tile < length tiles → limit_at tiles roots row tile ≡ None

-- a limit is passed at a row and tile, and none before: on no tile of an earlier row, and on no earlier tile of
-- the row
pub record PassedFirst (tiles : List Area) (roots : List Expr) (what : Limit) : Type 0 where
  pub row : ℕ
  pub tile : ℕ
  pub there : row < length roots
  pub among : tile < length tiles
  pub passed : limit_at tiles roots row tile ≡ Some what
  pub before_row : (earlier other : ℕ) → earlier < row → other < length tiles → limit_at tiles roots earlier other ≡ None
  pub before_tile : (other : ℕ) → other < tile → limit_at tiles roots row other ≡ None

-- ---- the same, found on the way: with the list and the number of rows and tiles that were visited

-- the limit that a root passes first on some tiles, or none
abbrev pub first_limit_on : Expr → List Area → List Alias → ℕ → Option Limit
first_limit_on e [] l visited = None
first_limit_on e (tile ∷ tiles) l visited =
    option_or (limit_passed e (visit e tile l) (visited + 1)) (first_limit_on e tiles (visit e tile l) (visited + 1))

-- and that roots pass first
abbrev pub first_limit_from : List Area → List Expr → List Alias → ℕ → Option Limit
first_limit_from tiles [] l visited = None
first_limit_from tiles (e ∷ roots) l visited =
    option_or (first_limit_on e tiles l visited)
    (first_limit_from tiles roots (visit_tiles e tiles l) (visited + length tiles))
