use Rattle.std.specs.Prelude.{◌≡◌, ◌⊎◌, ◌<◌, ◌^◌, ℕ, Bool, true, false, List, [], ◌∷◌, ◌++◌, Some, length, slice_get}
use Rattle.xs_alias.specs.declared.key.Key.{Key}
use Rattle.xs_alias.specs.declared.key.Key.TheVariants as key

abbrev pub is_clear_key : Key → Bool
is_clear_key key.Clear = true
is_clear_key (key.Leaf drawing dx dy) = false
is_clear_key (key.Tinted drawing dx dy tint) = false
is_clear_key (key.Card pixel) = false
is_clear_key (key.Pair op a b) = false
is_clear_key (key.Blur a radius) = false

-- the inputs of a key are below n
abbrev pub IsOver : ℕ → Key → Type 0
IsOver n key.Clear = Unit {0}
IsOver n (key.Leaf drawing dx dy) = Unit {0}
IsOver n (key.Tinted drawing dx dy tint) = Unit {0}
IsOver n (key.Card pixel) = Unit {0}
IsOver n (key.Pair op a b) = (a < n) × (b < n)
IsOver n (key.Blur a radius) = a < n

-- keys in the order of their numbers: the inputs of each are below its place, and equal keys have equal
-- places
pub record IsNumbering (keys : List Key) : Type 0 where
  pub founded : (n : ℕ) (k : Key) → slice_get keys n ≡ Some k → IsOver n k
  pub distinct : (m n : ℕ) (k : Key) → slice_get keys m ≡ Some k → slice_get keys n ≡ Some k → m ≡ n
  pub few : length keys < 2 ^ 32

-- n is the number of k: an old one where nothing changed, or the next one where k was added
pub record Numbers (old new : List Key) (k : Key) (n : ℕ) : Type 0 where
  pub within : n < length new
  pub has : slice_get new n ≡ Some k
  pub grown : (new ≡ old) ⊎ ((new ≡ old ++ k ∷ []) × (n ≡ length old))

-- n is a number: an old one where nothing changed, or the next one where one key was added
pub record IsGiven (old new : List Key) (n : ℕ) : Type 0 where
  pub within : n < length new
  pub grown : (new ≡ old) ⊎ ((k : Key) × (new ≡ old ++ k ∷ []) × (n ≡ length old))
