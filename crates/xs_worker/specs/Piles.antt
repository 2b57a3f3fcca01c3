-- Aliases of which only the last may be taken off
use Rattle.std.specs.Prelude.{ℕ, Option, Some, None, List, [], ◌∷◌}

-- the aliases, the last first, and for how many more there is room
pub record Pile : Type 0 where
  pub items : List ℕ
  pub room : ℕ

abbrev pub top_of : List ℕ → Option ℕ
top_of [] = None
top_of (k ∷ ks) = Some k

abbrev pub below_top : List ℕ → List ℕ
below_top [] = []
below_top (k ∷ ks) = ks

-- the last of a list, or what stands for it where there is none
abbrev pub last_or : Option ℕ → List ℕ → Option ℕ
last_or before [] = before
last_or before (k ∷ ks) = last_or (Some k) ks
