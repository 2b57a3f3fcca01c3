use Rattle.xs_graph.specs.Paths.{TellChains}
use Rattle.xs_graph.proofs.chains.chain_marks.Given as goal

abbrev pub invariant-loop-step : goal.invariant-loop-step
invariant-loop-step l = TellChains l.links l.step l.marks.items
