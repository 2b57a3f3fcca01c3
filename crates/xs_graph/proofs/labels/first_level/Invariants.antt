use Rattle.std.proofs.Common.{◌<◌, ℕ}
use Rattle.xs_graph.specs.Labels.{Falls}
use Rattle.xs_graph.proofs.labels.first_level.Given as goal

abbrev pub invariant-loop-i : goal.invariant-loop-i
invariant-loop-i l = (a : ℕ) → a < l.i → Falls l.links l.labels a
