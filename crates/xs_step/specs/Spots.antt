use Rattle.std.specs.Prelude.{ℕ, Bool}
use Rattle.xs_scene.specs.declared.node.Ref.{Ref}
use Rattle.xs_step.specs.declared.spot.At.{At}
use Rattle.xs_step.specs.declared.spot.At.TheVariants.{Input}
use Rattle.xs_step.specs.declared.spot.Spot.{Spot}
use Rattle.xs_step.specs.contracts.spot.SpotPartialEq.TheImpl as equality

abbrev pub spot : ℕ → At → ℕ → Spot
spot sheet at row = record { sheet = sheet; at = at; row = row }

-- a column or node of a sheet at a row
abbrev pub input_spot : ℕ → Ref → ℕ → Spot
input_spot sheet of row = spot sheet (Input of) row

-- whether two spots are the same one
abbrev pub same_spot : Spot → Spot → Bool
same_spot = (equality.eq-value).it
