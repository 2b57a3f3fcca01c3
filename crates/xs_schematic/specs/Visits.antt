use Rattle.std.specs.Prelude.{ℕ, zero, suc, List, [], ◌∷◌, length, slice_get, if◌then◌else◌}
use Rattle.std.specs.Option.{option_map_or}
use Rattle.std.specs.List.{range_with_len}
use Rattle.xs_base.specs.Listed.{is_listed}
use Rattle.xs_scene.specs.declared.node.Node.{Node}
use Rattle.xs_meaning.specs.Inputs.{inputs_of}
use Rattle.xs_base.specs.Once.{with_one}

-- the inputs of a node of a sheet that are nodes, and none where the sheet lacks it
abbrev pub inputs_in : List Node → ℕ → List ℕ
inputs_in nodes n = option_map_or inputs_of (slice_get nodes n) []

abbrev pub visit_all : (ℕ → List ℕ → List ℕ) → List ℕ → List ℕ → List ℕ
visit_all visit [] order = order
visit_all visit (n ∷ ns) order = visit_all visit ns (visit n order)

-- a visit to a node that stands in the order changes nothing; else its inputs are visited, and it is
-- put last. A visit goes through at most so many nodes
unfoldable pub visit_node : List Node → ℕ → ℕ → List ℕ → List ℕ
visit_node nodes zero n order = order
visit_node nodes (suc m) n order =
    if is_listed order n
    then order
    else with_one (visit_all (visit_node nodes m) (inputs_in nodes n) order) n

-- all nodes are visited by rising number
unfoldable pub visits_of : List Node → List ℕ
visits_of nodes = visit_all (visit_node nodes (length nodes)) (range_with_len 0 (length nodes)) []
