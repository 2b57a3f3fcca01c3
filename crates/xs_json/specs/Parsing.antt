-- Parsed a value gives what it stands for, or the first fault and its path.
use Rattle.std.specs.Prelude.{◌≡◌, ℕ, List, Option, Some, None, Result, Ok, Err}
use Rattle.xs_fault.specs.declared.code.SceneCode.{SceneCode}
use Rattle.xs_fault.specs.declared.fault.SceneFault.{SceneFault}
use Rattle.xs_fault.specs.declared.fault.FieldFault.{FieldFault}
use Rattle.xs_fault.specs.declared.fault.FieldFault.TheVariants as errors

abbrev pub Parsed : Type 0 → Type 0
Parsed A = Result A SceneFault

-- the second reading, of what the first gave
infixl 10 ◌>>=◌
abbrev pub ◌>>=◌ : {A B : Type 0} → Parsed A → (A → Parsed B) → Parsed B
(Ok x) >>= f = f x
(Err e) >>= f = Err e

abbrev pub fault : {A : Type 0} → SceneCode → List ℕ → Parsed A
fault code at = Err (record { code = code; path = at })

-- the value, or the fault where there is none
abbrev pub or_fault : {A : Type 0} → Option A → SceneCode → List ℕ → Parsed A
or_fault (Some x) code at = Ok x
or_fault None code at = fault code at

-- a function failed as the reading does, or memory ran out
abbrev pub Fails : {Y : Type 0} → FieldFault → Parsed Y → Type 0
Fails errors.Memory reading = Unit {0}
Fails (errors.Fault f) reading = reading ≡ Err f

-- what a function returned, seen by view, is what the reading gives, unless memory ran out
abbrev pub Gives : {X Y : Type 0} → (X → Y) → Result X FieldFault → Parsed Y → Type 0
Gives view (Ok x) reading = reading ≡ Ok (view x)
Gives view (Err e) reading = Fails e reading
