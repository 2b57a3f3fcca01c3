-- Whether a node lies on a cycle, by the nodes that a path leads through.
use Rattle.std.specs.Prelude.{◌==◌, ◌&&◌, ◌||◌, ℕ, zero, suc, Bool, length}
use Rattle.std.specs.List.{list_any}
use Rattle.xs_graph.specs.Paths.{Links, successors}

-- whether a path of one step or more leads from one node to another whose nodes between the two are all below
-- a number
unfoldable pub leads_through : Links → ℕ → ℕ → ℕ → Bool
leads_through links zero a b = list_any (λ c. b == c) (successors links a)
leads_through links (suc k) a b = leads_through links k a b || (leads_through links k a k && leads_through links k k b)

-- whether a path leads from a node back to itself
abbrev pub lies_on_cycle : Links → ℕ → Bool
lies_on_cycle links a = leads_through links (length links) a a
