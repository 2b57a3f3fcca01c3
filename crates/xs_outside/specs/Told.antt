use Rattle.std.specs.Prelude.{◌≡◌, ℕ, ◌-◌, ◌^◌, ◌<◌, ◌⊎◌, List, ◌++◌, Option, Some, None}

-- a count of faults rose in a call: it is greater than before, or stands at its last value
abbrev pub Rose : ℕ → ℕ → Type 0
Rose before now = (before < now) ⊎ (now ≡ 2 ^ 64 - 1)

-- what a told list is once these items came to its end; an untold one stays untold
unfoldable pub more : {A : Type 0} → Option (List A) → List A → Option (List A)
more None items = None
more (Some told) items = Some (told ++ items)
