-- Several rows of a scene that are tried
use Rattle.std.specs.Prelude.{◌≡◌, ◌<◌, ◌≤◌, ◌+◌, ℕ, Some, None, Result, Err, OnOk, List, ◌++◌, All, length, map}
use Rattle.std.specs.List.{range_with_len}
use Rattle.std.specs.Option.{option_map}
use Rattle.xs_scene.specs.Records.{SceneRecord}
use Rattle.xs_meaning.specs.Expressions.{Expr, root_of}
use Rattle.xs_demand.specs.Limits.{first_limit}
use Rattle.xs_demand.specs.Renamed.{renamed}
use Rattle.xs_build.specs.States.{named}
use Rattle.xs_dryrun.specs.declared.next.Underway.{Underway}
use Rattle.xs_dryrun.specs.declared.limits.What.{What}
use Rattle.xs_dryrun.specs.declared.limits.PlanFault.{PlanFault}
use Rattle.xs_dryrun.specs.declared.limits.PlanFault.TheVariants.{Limit}
use Rattle.xs_dryrun.specs.Passing.{what_of, greatest_of}
use Rattle.xs_dryrun.specs.Planned.{Planned, AreRoots}

-- the root of a row of a scene, with drawings under these names
abbrev pub root_under : SceneRecord → List ℕ → ℕ → Expr
root_under s names row = renamed (named names) (root_of s row)

-- those of so many rows from one on
abbrev pub roots_under : SceneRecord → List ℕ → ℕ → ℕ → List Expr
roots_under s names from count = map (root_under s names) (range_with_len from count)

-- rows with these roots are planned and pass no limit, and so many rows from this number on may follow, whose
-- drawings have these names
pub record MayAdd (drawings : ℕ) (roots : List Expr) (names : List ℕ) (place count : ℕ) (u : Underway) : Type 0 where
  pub planned : Planned drawings roots u.build.entered u.rows u.builder
  pub none : first_limit u.builder.plan.tiles roots ≡ None
  pub held : AreRoots u.build.entered u.roots.items roots
  pub named : All (λ name. name < drawings) names
  pub behind : place ≡ length roots
  pub room : place + count ≤ u.builder.rows

-- the first rows of those that may follow were added
pub record AddsRows (s : SceneRecord) (names : List ℕ) (from place count done : ℕ) (old new : Underway) : Type 0 where
  pub tiles : new.builder.plan.tiles ≡ old.builder.plan.tiles
  pub room : new.builder.rows ≡ old.builder.rows
  pub many : new.rows.tiles ≡ old.rows.tiles
  pub adds : (drawings : ℕ) (roots : List Expr) → MayAdd drawings roots names place count old
      → Planned drawings (roots ++ roots_under s names from done) new.build.entered new.rows new.builder
      × (first_limit old.builder.plan.tiles (roots ++ roots_under s names from done) ≡ None)
      × AreRoots new.build.entered new.roots.items (roots ++ roots_under s names from done)

-- all were added, or a limit is passed
pub record TriesRows (s : SceneRecord) (names : List ℕ) (from place count : ℕ) (old new : Underway) (r : Result (Unit {0}) PlanFault) : Type 0 where
  pub added : OnOk r (AddsRows s names from place count count old new)
  pub limited : (what : What) (limit : ℕ) → r ≡ Err (Limit what limit)
      → (drawings : ℕ) (roots : List Expr) → MayAdd drawings roots names place count old
      → (option_map what_of (first_limit old.builder.plan.tiles (roots ++ roots_under s names from count)) ≡ Some what)
      × (limit ≡ greatest_of what)
