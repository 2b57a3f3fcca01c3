use Rattle.xs_graph.proofs.ChainMarks.{chain_found, chain_told}
use Rattle.xs_graph.proofs.laws.chains_are_told_link_by_link.Goals as goal

pub returns : goal.returns
returns c = λ links steps a. (chain_found links steps a, λ chain. chain_told links steps a chain.end chain.path)
