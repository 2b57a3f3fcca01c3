use Rattle.xs_scene.specs.declared.node.Inputs.{Inputs}
use Rattle.xs_scene.specs.declared.node.Inputs.TheVariants.{Zero, One, Two}
use Rattle.xs_scene.specs.declared.node.Node.{Node}
use Rattle.xs_scene.specs.declared.node.Node.TheVariants.{Pair, Card, Shuffle, Blur, Keep, Delete}

-- the inputs of a node, the first before the second
abbrev pub inputs_of_node : Node → Inputs
inputs_of_node (Pair op first second) = Two first second
inputs_of_node (Card style) = Zero
inputs_of_node (Shuffle input list) = One input
inputs_of_node (Blur input radius) = One input
inputs_of_node (Keep input styles) = One input
inputs_of_node (Delete input styles) = One input
