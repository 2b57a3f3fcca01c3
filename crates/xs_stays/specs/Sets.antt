-- Sets of styles as flags
use Rattle.std.specs.Prelude.{◌≡◌, ℕ, Bool, false, List, [], ◌∷◌, slice_index_or, if◌then◌else◌}

-- the styles whose flag is set, one flag for each style from 0 on
abbrev pub styles_in : List Bool → ℕ → Bool
styles_in flags style = slice_index_or flags style false

abbrev pub before : Bool → List Bool → List Bool
before b [] = if b then b ∷ [] else []
before b (c ∷ cs) = b ∷ c ∷ cs

-- flags up to the last one that is set
abbrev pub up_to_last : List Bool → List Bool
up_to_last [] = []
up_to_last (b ∷ bs) = before b (up_to_last bs)

-- the last flag is set, if there is one: a set of styles has only one such list
abbrev pub IsShort : List Bool → Type 0
IsShort flags = up_to_last flags ≡ flags
