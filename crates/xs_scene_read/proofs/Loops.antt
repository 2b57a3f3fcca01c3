-- Parsed the elements of a list one after the other, as a loop does.
use Rattle.std.proofs.Common.{List, ◌++◌, Ok}
use Rattle.xs_json.specs.Parsing.{Parsed, ◌>>=◌}

-- what was read before, and what is still read
abbrev pub with_front : {A : Type 0} → List A → Parsed (List A) → Parsed (List A)
with_front front reading = reading >>= λ xs. Ok (front ++ xs)
