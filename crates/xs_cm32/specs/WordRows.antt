use Rattle.std.specs.Prelude.{ℕ, List, [], ◌∷◌}
use Rattle.std.specs.Simd.Lanes.{number_l}

-- a row of bytes as a list of words: each four bytes are the digits of a word in base 256, lowest first
abbrev pub words : List ℕ → List ℕ
words (a ∷ b ∷ c ∷ d ∷ rest) = number_l 256 (a ∷ b ∷ c ∷ d ∷ []) ∷ words rest
words _ = []
