use Rattle.std.specs.Prelude.{ℕ, zero, suc, ◌<◌, ◌≤◌, ◌≢◌, List, [], ◌∷◌, ◌++◌, All, AllPairs, Contains, length, take, flat_map, slice_index}
use Rattle.xs_base.specs.declared.limits.TheConstants.{MOST_NODES}
use Rattle.std.specs.List.{range_with_len}
use Rattle.xs_scene.specs.declared.node.Node.{Node}
use Rattle.xs_scene.specs.declared.node.Ref.TheVariants.{Node as ToNode}
use Rattle.xs_scene.specs.Records.{SheetRecord}
use Rattle.xs_meaning.specs.Ends.{NodesEnd}
use Rattle.xs_schematic.specs.Visits.{inputs_in}

-- what checking finds of a sheet's nodes: they are few, their inputs are there, and no node leads back
-- to itself
pub record IsOrderable (k : SheetRecord) : Type 0 where
  pub few : length k.nodes ≤ MOST_NODES
  pub inputs : (n : ℕ) → n < length k.nodes → All (λ m. m < length k.nodes) (inputs_in k.nodes n)
  pub ends : (n : ℕ) → n < length k.nodes → NodesEnd k (length k.nodes) (ToNode n)

-- each node stands after all its inputs
abbrev pub AreAfterInputs : SheetRecord → List ℕ → Type 0
AreAfterInputs k order =
    (i : ℕ) → i < length order → All (Contains (take i order)) (inputs_in k.nodes (slice_index order i))

-- every node of the sheet, and nothing else, once, and after its inputs
pub record IsOrder (k : SheetRecord) (order : List ℕ) : Type 0 where
  pub nodes : All (λ n. n < length k.nodes) order
  pub once : AllPairs (λ m n. m ≢ n) order
  pub all : (n : ℕ) → n < length k.nodes → Contains order n
  pub inputs_first : AreAfterInputs k order

-- what a node is made from, written out, through at most so many nodes: all that its first input is made
-- from, all that its second is made from, and then itself. What is used twice stands there twice
unfoldable pub made_from : List Node → ℕ → ℕ → List ℕ
made_from nodes zero n = []
made_from nodes (suc m) n = flat_map (made_from nodes m) (inputs_in nodes n) ++ n ∷ []

-- the same for all nodes by rising number
abbrev pub all_made_from : List Node → List ℕ
all_made_from nodes = flat_map (made_from nodes (length nodes)) (range_with_len 0 (length nodes))
