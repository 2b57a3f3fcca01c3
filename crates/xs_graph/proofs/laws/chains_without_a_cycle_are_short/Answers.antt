use Rattle.xs_graph.proofs.PathLengths.{short_chain}
use Rattle.xs_graph.proofs.laws.chains_without_a_cycle_are_short.Goals as goal

pub returns : goal.returns
returns c = λ links inside acyclic steps a here chain. short_chain links inside acyclic steps a here chain
