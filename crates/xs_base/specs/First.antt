use Rattle.std.specs.Prelude.{◌<◌, ℕ, Option, Some, None}

-- of the numbers below one, the first without P, or none
abbrev pub IsFirstWithout : (ℕ → Type 0) → ℕ → Option ℕ → Type 0
IsFirstWithout P n None = (i : ℕ) → i < n → P i
IsFirstWithout P n (Some i) = (i < n) × (P i → ⊥) × ((j : ℕ) → j < i → P j)
