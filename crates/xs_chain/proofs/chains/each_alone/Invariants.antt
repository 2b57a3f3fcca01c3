use Rattle.xs_chain.specs.Ring.{IsEachAlone}
use Rattle.xs_chain.proofs.chains.each_alone.Given as goal

abbrev pub invariant-loop-node : goal.invariant-loop-node
invariant-loop-node l = IsEachAlone l.node l.links.items
