use Rattle.xs_graph.proofs.Cycles.{cycle_told}
use Rattle.xs_graph.proofs.laws.cycles_are_told_node_by_node.Goals as goal

pub returns : goal.returns
returns c = λ links a. cycle_told links a
