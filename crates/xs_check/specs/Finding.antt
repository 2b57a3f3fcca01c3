-- What a check finds: the first fault in its order, or nothing.
use Rattle.std.specs.Prelude.{◌≡◌, ◌+◌, ℕ, Bool, true, false, List, [], ◌∷◌, Option, Some, None, Result, Ok, Err}
use Rattle.xs_fault.specs.Paths.{index_at}
use Rattle.xs_fault.specs.declared.code.SceneCode.{SceneCode}
use Rattle.xs_fault.specs.declared.fault.SceneFault.{SceneFault}
use Rattle.xs_fault.specs.declared.fault.FieldFault.{FieldFault}
use Rattle.xs_fault.specs.declared.fault.FieldFault.TheVariants as errors

abbrev pub Finding : Type 0
Finding = Option SceneFault

-- a fault of this code and path, unless a test holds
abbrev pub unless : SceneCode → List ℕ → Bool → Finding
unless code at true = None
unless code at false = Some (record { code = code; path = at })

-- the second check is made where the first one finds nothing
abbrev pub or_else : Finding → Finding → Finding
or_else None second = second
or_else (Some fault) second = Some fault

-- the elements of a list in order, from number i on
abbrev pub each_from : {A : Type 0} → (ℕ → A → Finding) → ℕ → List A → Finding
each_from F i [] = None
each_from F i (x ∷ xs) = or_else (F i x) (each_from F (i + 1) xs)

-- the elements of the list at a path, each at its own path
unfoldable pub in_list : {A : Type 0} → List ℕ → (List ℕ → A → Finding) → List A → Finding
in_list at F xs = each_from (λ i x. F (index_at at i) x) 0 xs

-- a value that may be absent
abbrev pub if_there : {A : Type 0} → (A → Finding) → Option A → Finding
if_there F None = None
if_there F (Some x) = F x

-- a function answered what the check finds, or memory ran out
abbrev pub Finds : {X : Type 0} → Result X FieldFault → Finding → Type 0
Finds (Ok x) found = found ≡ None
Finds (Err errors.Memory) found = Unit {0}
Finds (Err (errors.Fault fault)) found = found ≡ Some fault

-- a fault of this code at the first of some elements of the list at a path, if one was found
abbrev pub IsFaultAtFirst : SceneCode → List ℕ → Option ℕ → Result (Unit {0}) FieldFault → Type 0
IsFaultAtFirst code at first (Ok x) = first ≡ None
IsFaultAtFirst code at first (Err errors.Memory) = Unit {0}
IsFaultAtFirst code at first (Err (errors.Fault fault)) =
    (i : ℕ) × (first ≡ Some i) × (fault ≡ record { code = code; path = index_at at i })
