-- Directed graphs by lists of links, and the paths in them.
use Rattle.std.specs.Prelude.{◌≡◌, ◌==◌, ℕ, zero, suc, Bool, true, List, [], Contains, length, slice_index_or}
use Rattle.std.specs.List.{list_any}

-- for each node, by number, the numbers of those that it links to
abbrev pub Links : Type 0
Links = List (List ℕ)

abbrev pub successors : Links → ℕ → List ℕ
successors links a = slice_index_or links a []

-- a path of so many steps leads from one node to another
unfoldable pub Leads : Links → ℕ → ℕ → ℕ → Type 0
Leads links zero a b = a ≡ b
Leads links (suc steps) a b = (c : ℕ) × Contains (successors links a) c × Leads links steps c b

-- a path of one step or more leads from one node to another
pub record Reaches (links : Links) (a b : ℕ) : Type 0 where
  pub steps : ℕ
  pub path : Leads links (suc steps) a b

-- a path leads from a node back to itself
abbrev pub LiesOnCycle : Links → ℕ → Type 0
LiesOnCycle links a = Reaches links a a

-- a chain begins at a node that has so many more after it
pub record HasChain (links : Links) (steps a : ℕ) : Type 0 where
  pub end : ℕ
  pub path : Leads links steps a end

-- whether such a chain begins at a node
unfoldable pub has_chain : Links → ℕ → ℕ → Bool
has_chain links zero a = true
has_chain links (suc steps) a = list_any (has_chain links steps) (successors links a)

-- marks tell of each node whether such a chain begins at it; of a number past them, none of one step does
pub record TellChains (links : Links) (steps : ℕ) (marks : List Bool) : Type 0 where
  pub length : length marks ≡ length links
  pub told : (a : ℕ) → slice_index_or marks a (steps == 0) ≡ has_chain links steps a
