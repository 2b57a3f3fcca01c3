-- A row of a scene that is tried
use Rattle.std.specs.Prelude.{◌≡◌, ◌<◌, ℕ, Some, None, Result, Err, OnOk, List, [], ◌∷◌, ◌++◌, All, length}
use Rattle.std.specs.Option.{option_map}
use Rattle.xs_meaning.specs.Expressions.{Expr}
use Rattle.xs_plan.specs.Draft.{Draft}
use Rattle.xs_demand.specs.Blocks.{Spread}
use Rattle.xs_demand.specs.Limits.{first_limit}
use Rattle.xs_dryrun.specs.declared.rows.Rows.{Rows}
use Rattle.xs_dryrun.specs.declared.limits.What.{What}
use Rattle.xs_dryrun.specs.declared.limits.PlanFault.{PlanFault}
use Rattle.xs_dryrun.specs.declared.limits.PlanFault.TheVariants.{Limit}
use Rattle.xs_dryrun.specs.Passing.{what_of, greatest_of}
use Rattle.xs_dryrun.specs.Planned.{Planned}

-- rows with these roots are planned and pass no limit, and a row with this number may follow, whose drawings have
-- these names
pub record MayFollow (drawings : ℕ) (roots : List Expr) (names : List ℕ) (row : ℕ) (l : List Spread) (rows : Rows) (d : Draft) : Type 0 where
  pub planned : Planned drawings roots l rows d
  pub none : first_limit d.plan.tiles roots ≡ None
  pub named : All (λ name. name < drawings) names
  pub place : row ≡ length roots
  pub room : length roots < d.rows

-- the row with this root was entered and added, or a limit is passed
pub record TriesRoot (old new : Draft) (rows later : Rows) (was now : List Spread) (names : List ℕ) (row : ℕ) (e : Expr)
    (r : Result (Unit {0}) PlanFault) : Type 0 where
  pub planned : OnOk r ((drawings : ℕ) (roots : List Expr) → MayFollow drawings roots names row was rows old
      → Planned drawings (roots ++ e ∷ []) now later new × (first_limit old.plan.tiles (roots ++ e ∷ []) ≡ None))
  pub limited : (what : What) (limit : ℕ) → r ≡ Err (Limit what limit)
      → (drawings : ℕ) (roots : List Expr) → MayFollow drawings roots names row was rows old
      → (option_map what_of (first_limit old.plan.tiles (roots ++ e ∷ [])) ≡ Some what) × (limit ≡ greatest_of what)
