use Rattle.std.proofs.Common.{◌<◌, ℕ}
use Rattle.xs_graph.specs.Paths.{LiesOnCycle}
use Rattle.xs_graph.proofs.search.first_by_search.Given as goal

abbrev pub invariant-loop-i : goal.invariant-loop-i
invariant-loop-i l = (j : ℕ) → j < l.i → LiesOnCycle l.links j → ⊥
