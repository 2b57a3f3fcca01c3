-- A plan of the rows so far
use Rattle.std.specs.Prelude.{◌≡◌, ◌<◌, ◌≤◌, ◌*◌, ℕ, Some, None, Result, Err, OnOk, List, [], ◌∷◌, ◌++◌, All, length, map, slice_get}
use Rattle.std.specs.List.{AllZip}
use Rattle.std.specs.Option.{option_map}
use Rattle.xs_meaning.specs.Expressions.{Expr, reach_of}
use Rattle.xs_plan.specs.declared.limits.TheConstants.{MOST_ALIASES, FARTHEST_REACH}
use Rattle.xs_plan.specs.Draft.{Draft}
use Rattle.xs_demand.specs.Aliases.{aliases_of}
use Rattle.xs_demand.specs.Blocks.{Spread, spread, enter}
use Rattle.xs_demand.specs.Fit.{IsFit}
use Rattle.xs_demand.specs.Limits.{first_limit}
use Rattle.xs_demand.specs.Shown.{StandsAt, ends_of, root_aliases}
use Rattle.xs_build.specs.States.{expr_at}
use Rattle.xs_dryrun.specs.declared.rows.Rows.{Rows}
use Rattle.xs_dryrun.specs.declared.limits.Counts.{Counts}
use Rattle.xs_dryrun.specs.declared.limits.What.{What}
use Rattle.xs_dryrun.specs.declared.limits.PlanFault.{PlanFault}
use Rattle.xs_dryrun.specs.declared.limits.PlanFault.TheVariants.{Limit}
use Rattle.xs_dryrun.specs.Filling.{Filling}
use Rattle.xs_dryrun.specs.Passing.{AreCounts, what_of, greatest_of}

-- a plan has all aliases of rows with these roots, which have entered these expressions, and a root for each row and
-- tile
pub record Planned (drawings : ℕ) (roots : List Expr) (l : List Spread) (rows : Rows) (d : Draft) : Type 0 where
  pub filling : Filling drawings roots l rows d
  pub fit : All (IsFit drawings) roots
  pub near : All (λ e. reach_of e ≤ FARTHEST_REACH) roots
  pub some : 1 ≤ length d.plan.tiles
  pub filled : length d.plan.entries ≡ length d.plan.tiles * length l
  pub rooted : d.rooted ≡ length d.plan.entries
  pub given : AllZip (StandsAt (aliases_of d.plan.tiles roots)) (root_aliases d.plan.tiles roots) d.plan.roots
  pub ends : d.plan.ends ≡ ends_of d.plan.tiles roots []

-- numbers of expressions that were entered tell the roots of rows
pub record AreRoots (l : List Spread) (numbers : List ℕ) (roots : List Expr) : Type 0 where
  pub there : All (λ n. n < length l) numbers
  pub are : map (expr_at l) numbers ≡ roots

-- only tints were added
abbrev pub AddsTints : Draft → Draft → Type 0
AddsTints old new = new ≡ record old { plan = record old.plan { tints = new.plan.tints } }

-- the expressions of one row more were entered, and what the plan and the numbers have of it
pub record IsEntered (drawings : ℕ) (roots : List Expr) (e : Expr) (was now : List Spread) (root : ℕ) (d : Draft) : Type 0 where
  pub is : now ≡ enter e 0 was
  pub is_root : slice_get now root ≡ Some (spread e 0)
  pub fit : IsFit drawings e
  pub near : reach_of e ≤ FARTHEST_REACH
  pub few : length (aliases_of d.plan.tiles (roots ++ e ∷ [])) ≤ MOST_ALIASES
  pub room : length roots < d.rows

-- the expressions of one row more were entered; no limit is passed before it, and these are the counts before it
pub record IsNextRow (drawings : ℕ) (roots : List Expr) (e : Expr) (was now : List Spread) (root row : ℕ) (counts : Counts) (d : Draft) : Type 0 where
  pub is : now ≡ enter e 0 was
  pub is_root : slice_get now root ≡ Some (spread e 0)
  pub fit : IsFit drawings e
  pub near : reach_of e ≤ FARTHEST_REACH
  pub room : length roots < d.rows
  pub place : row ≡ length roots
  pub counted : AreCounts was counts
  pub none : first_limit d.plan.tiles roots ≡ None

-- the row was added, or a limit is passed
pub record TriesRow (old new : Draft) (rows later : Rows) (now : List Spread) (root row : ℕ) (counts : Counts) (r : Result (Unit {0}) PlanFault) : Type 0 where
  pub planned : OnOk r ((drawings : ℕ) (roots : List Expr) (e : Expr) (was : List Spread) → Planned drawings roots was rows old
      → IsNextRow drawings roots e was now root row counts old
      → Planned drawings (roots ++ e ∷ []) now later new × (first_limit old.plan.tiles (roots ++ e ∷ []) ≡ None))
  pub limited : (what : What) (limit : ℕ) → r ≡ Err (Limit what limit)
      → (drawings : ℕ) (roots : List Expr) (e : Expr) (was : List Spread) → Planned drawings roots was rows old
      → IsNextRow drawings roots e was now root row counts old
      → (option_map what_of (first_limit old.plan.tiles (roots ++ e ∷ [])) ≡ Some what) × (limit ≡ greatest_of what)
