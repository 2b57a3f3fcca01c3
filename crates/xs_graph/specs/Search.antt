-- The search for a path back.
use Rattle.std.specs.Prelude.{◌≡◌, ◌<◌, ◌≤◌, ◌⊎◌, ℕ, Bool, true, false, List, [], ◌∷◌, ◌++◌, All, Contains, length, slice_index_or, slice_set, if◌then◌else◌}
use Rattle.xs_graph.specs.Paths.{Links, successors, Reaches}

-- a number is noted, or is past the marks and so of no node
abbrev pub is_noted : List Bool → ℕ → Bool
is_noted seen x = slice_index_or seen x true

abbrev pub met_after : List Bool → List ℕ → ℕ → List ℕ
met_after seen met x = if is_noted seen x then met else met ++ x ∷ []

abbrev pub seen_after : List Bool → ℕ → List Bool
seen_after seen x = if is_noted seen x then seen else slice_set seen x true

-- marks and the numbers met, after some targets were noted
pub record Grows (seen : List Bool) (met : List ℕ) (targets : List ℕ) (seen_new : List Bool) (met_new : List ℕ) : Type 0 where
  pub as_long : length seen_new ≡ length seen
  pub kept : (x : ℕ) → is_noted seen x ≡ true → is_noted seen_new x ≡ true
  pub noted : All (λ x. is_noted seen_new x ≡ true) targets
  pub marked :
      ((x : ℕ) → slice_index_or seen x false ≡ true → Contains met x)
      → (x : ℕ) → slice_index_or seen_new x false ≡ true → Contains met_new x
  pub more : length met ≤ length met_new
  pub before : (k : ℕ) → k < length met → slice_index_or met_new k 0 ≡ slice_index_or met k 0
  pub from : (x : ℕ) → Contains met_new x → Contains met x ⊎ Contains targets x

-- what a search from a node knows once it has looked at the links of so many of the nodes met
pub record Searching (links : Links) (from : ℕ) (seen : List Bool) (met : List ℕ) (done : ℕ) : Type 0 where
  pub as_long : length seen ≡ length links
  pub reached : (x : ℕ) → Contains met x → Reaches links from x
  pub marked : (x : ℕ) → slice_index_or seen x false ≡ true → Contains met x
  pub first : All (λ x. is_noted seen x ≡ true) (successors links from)
  pub closed : (k : ℕ) → k < done → All (λ x. is_noted seen x ≡ true) (successors links (slice_index_or met k 0))
