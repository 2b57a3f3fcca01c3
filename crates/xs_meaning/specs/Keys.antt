use Rattle.std.specs.Prelude.{ℕ, nat_lt, Option, Some, None, List, [], ◌∷◌, if◌then◌else◌}

-- the one of two keys with the greater row, and the one with the lesser row
abbrev pub later : {K : Type 0} → (K → ℕ) → K → Option K → K
later row k None = k
later row k (Some best) = if nat_lt (row k) (row best) then best else k

abbrev pub earlier : {K : Type 0} → (K → ℕ) → K → Option K → K
earlier row k None = k
earlier row k (Some best) = if nat_lt (row best) (row k) then best else k

-- of a list of keys, the one with the greatest row; of several with this row, the first
abbrev pub latest : {K : Type 0} → (K → ℕ) → List K → Option K
latest row [] = None
latest row (k ∷ ks) = Some (later row k (latest row ks))

-- the one with the least row; of several with this row, the first
abbrev pub earliest : {K : Type 0} → (K → ℕ) → List K → Option K
earliest row [] = None
earliest row (k ∷ ks) = Some (earlier row k (earliest row ks))

-- of the latest of some keys and one after them, the one with the greater row; of two with the same
-- row, the first
abbrev pub newest : {K : Type 0} → (K → ℕ) → Option K → K → K
newest row None k = k
newest row (Some best) k = if nat_lt (row best) (row k) then k else best

-- of the earliest of some keys and one after them, the one with the lesser row
abbrev pub nearest : {K : Type 0} → (K → ℕ) → Option K → K → K
nearest row None k = k
nearest row (Some best) k = if nat_lt (row k) (row best) then k else best
