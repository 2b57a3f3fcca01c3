-- Lists in the order of their rows. Each item has a group and a row: groups stand one after another, and
-- in each group rows do not fall.
use Rattle.std.specs.Prelude.{◌≡◌, ◌==◌, ◌≤◌, ◌<◌, ◌&&◌, ◌||◌, ℕ, Bool, true, nat_lt, nat_le, List, All, Contains, length, slice_index_or}
use Rattle.std.specs.List.Sorted.{IsPermutation}

-- whether an item stands in an earlier group, or in this group at or before a row
abbrev pub has_begun : {K : Type 0} → (K → ℕ) → (K → ℕ) → ℕ → ℕ → K → Bool
has_begun group row g r k = nat_lt (group k) g || (group k == g && nat_le (row k) r)

abbrev pub IsInOrder : {K : Type 0} → (K → ℕ) → (K → ℕ) → List K → Type 0
IsInOrder {K} group row xs =
    (i j : ℕ) (d : K) → i ≤ j → j < length xs
    → has_begun group row (group (slice_index_or xs j d)) (row (slice_index_or xs j d)) (slice_index_or xs i d) ≡ true

-- the same items in order
pub record IsOrderOf {K : Type 0} (group row : K → ℕ) (xs ys : List K) : Type 0 where
  pub moved : IsPermutation xs ys
  pub order : IsInOrder group row ys

-- a is the last item of a group at or before a row
pub record IsLast {K : Type 0} (group row : K → ℕ) (g r : ℕ) (xs : List K) (a : K) : Type 0 where
  pub among : Contains xs a
  pub grouped : group a ≡ g
  pub begun : row a ≤ r
  pub last : All (λ k. group k ≡ g → row k ≤ r → row k ≤ row a) xs

-- b is the first item of a group after a row
pub record IsNext {K : Type 0} (group row : K → ℕ) (g r : ℕ) (xs : List K) (b : K) : Type 0 where
  pub among : Contains xs b
  pub grouped : group b ≡ g
  pub later : r < row b
  pub first : All (λ k. group k ≡ g → r < row k → row b ≤ row k) xs
