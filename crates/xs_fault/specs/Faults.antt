use Rattle.std.specs.Prelude.{◌≡◌, ℕ, List}
use Rattle.xs_fault.specs.declared.code.SceneCode.{SceneCode}
use Rattle.xs_fault.specs.declared.fault.FieldFault.{FieldFault}
use Rattle.xs_fault.specs.declared.fault.FieldFault.TheVariants as errors

-- this fault at this path, unless memory ran out
abbrev pub IsFaultAt : SceneCode → List ℕ → FieldFault → Type 0
IsFaultAt code at errors.Memory = Unit {0}
IsFaultAt code at (errors.Fault f) = f ≡ record { code = code; path = at }
