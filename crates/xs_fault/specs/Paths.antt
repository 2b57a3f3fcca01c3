-- Where a value stands in a text.
use Rattle.std.specs.Prelude.{ℕ, List, ◌∷◌, ◌++◌, decimal}
use Rattle.xs_fault.specs.declared.place.Step.{Step}
use Rattle.xs_fault.specs.declared.place.Step.TheVariants.{Here, Key, Item}
use Rattle.xs_fault.specs.declared.field.Field.{Field}
use Rattle.xs_fault.specs.Fields.{field_text}

-- the path of a member: that of its object, a slash and the key
unfoldable pub key_at : List ℕ → List ℕ → List ℕ
key_at at key = at ++ 47 ∷ key

-- the path of an element: that of its list, a slash and its number
unfoldable pub index_at : List ℕ → ℕ → List ℕ
index_at at i = key_at at (decimal i)

-- the path after one step more
abbrev pub step_from : List ℕ → Step → List ℕ
step_from at Here = at
step_from at (Key k) = key_at at (field_text k)
step_from at (Item i) = index_at at i

-- the path of a field of the object at a path
abbrev pub path_of : Field → List ℕ → List ℕ
path_of k at = key_at at (field_text k)
