-- A row of lists without a common member.
use Rattle.std.specs.Prelude.{◌≡◌, ◌<◌, ◌==◌, ℕ, true, false, not, Option, Some, None, List, [], ◌∷◌, ◌++◌, length, map, replicate, slice_set, slice_index_or, if◌then◌else◌}
use Rattle.std.specs.List.{filter, position}
use Rattle.xs_base.specs.Listed.{is_listed}

-- how many members there are, numbered from 0 on, and the members of each list, first to last
pub record Row : Type 0 where
  pub members : ℕ
  pub lists : List (List ℕ)

-- the row of so many lists, each empty
abbrev pub all_empty : ℕ → ℕ → Row
all_empty members lists = record { members = members; lists = replicate lists [] }

abbrev pub list_at : Row → ℕ → List ℕ
list_at row list = slice_index_or row.lists list []

-- the row with a member more at the end of a list
abbrev pub with_last : Row → ℕ → ℕ → Row
with_last row list m =
    record { members = row.members; lists = slice_set row.lists list (list_at row list ++ m ∷ []) }

-- the numbers of a list but this one
abbrev pub others : ℕ → List ℕ → List ℕ
others m xs = filter (λ x. not (x == m)) xs

-- the row with a member in no list
abbrev pub without : Row → ℕ → Row
without row m = record { members = row.members; lists = map (others m) row.lists }

-- the list that a member is in
abbrev pub list_with : Row → ℕ → Option ℕ
list_with row m = position (λ xs. is_listed xs m) row.lists

abbrev pub head : List ℕ → Option ℕ
head [] = None
head (x ∷ xs) = Some x

-- what stands in a list after a member
abbrev pub after : List ℕ → ℕ → Option ℕ
after [] m = None
after (x ∷ xs) m = if x == m then head xs else after xs m

abbrev pub in_list_of : Row → Option ℕ → List ℕ
in_list_of row None = []
in_list_of row (Some list) = list_at row list

-- what stands after a member in its list
abbrev pub next_of : Row → ℕ → Option ℕ
next_of row m = after (in_list_of row (list_with row m)) m

-- no number stands twice in a list
abbrev pub Once : List ℕ → Type 0
Once [] = Unit {0}
Once (x ∷ xs) = (is_listed xs x ≡ false) × Once xs

-- each member of a list exists, and stands there once and in no other list
pub record IsRow (row : Row) : Type 0 where
  pub exists : (list m : ℕ) → list < length row.lists → is_listed (list_at row list) m ≡ true → m < row.members
  pub once : (list : ℕ) → list < length row.lists → Once (list_at row list)
  pub alone : (list m : ℕ) → list < length row.lists → is_listed (list_at row list) m ≡ true → list_with row m ≡ Some list
