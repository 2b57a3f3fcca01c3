use Rattle.std.specs.Prelude.{ℕ, List, [], ◌∷◌, ◌++◌, if◌then◌else◌}
use Rattle.xs_base.specs.Listed.{is_listed}

-- the numbers of a list that are not among some known ones, each at its first place
unfoldable pub fresh : List ℕ → List ℕ → List ℕ
fresh known [] = []
fresh known (d ∷ ds) =
    if is_listed known d then fresh known ds else d ∷ fresh (known ++ d ∷ []) ds

-- the numbers of a list, each at its first place
abbrev pub each_once : List ℕ → List ℕ
each_once xs = fresh [] xs

-- known numbers, and one more if it is new
abbrev pub with_one : List ℕ → ℕ → List ℕ
with_one known d = if is_listed known d then known else known ++ d ∷ []

-- known numbers, and those of a list that are new
abbrev pub with_each : List ℕ → List ℕ → List ℕ
with_each known xs = known ++ fresh known xs
