use Rattle.std.specs.Prelude.{ℕ, ◌+◌, ◌≤◌, not, List, map, filter, length}
use Rattle.std.specs.List.{enumerate_from}
use Rattle.xs_base.specs.declared.limits.TheConstants.{MOST_COLUMNS}
use Rattle.xs_scene.specs.declared.node.Ref.{Ref}
use Rattle.xs_scene.specs.declared.node.Ref.TheVariants.{Column as ToColumn}
use Rattle.xs_scene.specs.Records.{ColumnRecord}
use Rattle.xs_step.specs.declared.terminals.Rest.{Rest}
use Rattle.xs_step.specs.declared.terminals.Rest.TheVariants.{Listed, On}

-- the columns that are not off, from left to right, where the first one has this number
abbrev pub columns_on : ℕ → List ColumnRecord → List Ref
columns_on number columns = map (λ e. ToColumn e.0) (filter (λ e. not e.1.off) (enumerate_from number columns))

abbrev pub terminals_in : Rest → List Ref
terminals_in (Listed terminals) = terminals.now
terminals_in (On number columns) = columns_on number columns.now

-- the numbers of the columns are small
abbrev pub HasNumbers : Rest → Type 0
HasNumbers (Listed terminals) = Unit {0}
HasNumbers (On number columns) = number + length columns.now ≤ MOST_COLUMNS
