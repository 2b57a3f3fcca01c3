use Rattle.xs_graph.specs.Search.{Searching}
use Rattle.xs_graph.proofs.search.leads_back.Given as goal

abbrev pub invariant-loop-i : goal.invariant-loop-i
invariant-loop-i l = Searching l.links l.from l.seen.items l.met.items l.i
