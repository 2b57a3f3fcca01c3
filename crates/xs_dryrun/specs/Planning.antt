-- What a planner holds
use Rattle.std.specs.Prelude.{◌≡◌, ◌<◌, ◌≤◌, ℕ, ℤ, Bool, true, false, None, List, [], All, length, map, refl}
use Rattle.std.specs.Coded.{Coded, code_by, coded_ℕ, coded_ℤ, coded_list, coded×}
use Rattle.xs_rect.specs.Area.{Area, area}
use Rattle.xs_meaning.specs.Expressions.{Expr}
use Rattle.xs_plan.specs.declared.limits.TheConstants.{MOST_ROWS, MOST_TILES}
use Rattle.xs_demand.specs.Limits.{first_limit}
use Rattle.xs_entered.specs.Codes.{expr_code}
use Rattle.xs_build.specs.States.{expr_at}
use Rattle.xs_dryrun.specs.declared.next.Underway.{Underway}
use Rattle.xs_dryrun.specs.Planned.{Planned}

-- the tiles of a frame, for how many rows the plan will be and how many drawings there are, and the roots of the rows
-- so far
pub record Planning : Type 0 where
  pub tiles : List Area
  pub rows : ℕ
  pub drawings : ℕ
  pub roots : List Expr

abbrev pub planning : List Area → ℕ → ℕ → List Expr → Planning
planning tiles rows drawings roots = record { tiles = tiles; rows = rows; drawings = drawings; roots = roots }

-- ---- codes, by which proofs tell these values apart

abbrev pub area_code : Coded Area
area_code =
    code_by ((ℤ × ℤ) × (ℕ × ℕ)) (coded× (coded× coded_ℤ coded_ℤ) (coded× coded_ℕ coded_ℕ)) (λ a. ((a.x, a.y), (a.w, a.h)))
    (λ p. area p.0.0 p.0.1 p.1.0 p.1.1) (λ _. refl)

abbrev pub planning_code : Coded Planning
planning_code =
    code_by ((List Area × List Expr) × (ℕ × ℕ)) (coded× (coded× (coded_list area_code) (coded_list expr_code)) (coded× coded_ℕ coded_ℕ))
    (λ p. ((p.tiles, p.roots), (p.rows, p.drawings))) (λ p. planning p.0.0 p.1.0 p.1.1 p.0.1) (λ _. refl)

-- ---- how it is held

-- the roots of the rows that a plan has so far; after a fault there are none
abbrev pub roots_in : Underway → List Expr
roots_in u = map (expr_at u.build.entered) u.roots.items

abbrev pub roots_so_far : Bool → Underway → List Expr
roots_so_far true u = []
roots_so_far false u = roots_in u

-- the plan so far, on these tiles and for so many rows and drawings; no limit is passed
pub record IsUnderway (tiles : List Area) (rows drawings : ℕ) (u : Underway) : Type 0 where
  pub planned : Planned drawings (roots_in u) u.build.entered u.rows u.builder
  pub none : first_limit u.builder.plan.tiles (roots_in u) ≡ None
  pub there : All (λ n. n < length u.build.entered) u.roots.items
  pub same_tiles : u.builder.plan.tiles ≡ tiles
  pub room : u.builder.rows ≡ rows
  pub many : u.rows.tiles ≡ length tiles

pub record IsPlanner (tiles : List Area) (rows drawings : ℕ) (lost : Bool) (u : Underway) : Type 0 where
  pub few_tiles : length tiles ≤ MOST_TILES
  pub some_rows : 1 ≤ rows
  pub few_rows : rows ≤ MOST_ROWS
  pub underway : lost ≡ false → IsUnderway tiles rows drawings u
