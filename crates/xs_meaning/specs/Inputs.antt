use Rattle.std.specs.Prelude.{ℕ, List, [], ◌∷◌, ◌++◌}
use Rattle.xs_scene.specs.declared.node.Ref.{Ref}
use Rattle.xs_scene.specs.declared.node.Ref.TheVariants.{Column as ToColumn, Node as ToNode}
use Rattle.xs_scene.specs.declared.node.Inputs.{Inputs}
use Rattle.xs_scene.specs.declared.node.Inputs.TheVariants.{Zero, One, Two}
use Rattle.xs_scene.specs.declared.node.Node.{Node}
use Rattle.xs_scene.specs.Inputs.{inputs_of_node}

-- the node that a ref names, if it names one
abbrev pub nodes_of : Ref → List ℕ
nodes_of (ToColumn c) = []
nodes_of (ToNode n) = n ∷ []

-- the nodes among some inputs
abbrev pub nodes_in : Inputs → List ℕ
nodes_in Zero = []
nodes_in (One input) = nodes_of input
nodes_in (Two first second) = nodes_of first ++ nodes_of second

-- the inputs of a node that are nodes, the first before the second
abbrev pub inputs_of : Node → List ℕ
inputs_of node = nodes_in (inputs_of_node node)
