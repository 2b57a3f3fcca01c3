use Rattle.std.proofs.Common.{◌<◌, ◌≤◌, ℕ, All, get_or}
use Rattle.xs_graph.specs.Paths.{successors}
use Rattle.xs_graph.proofs.labels.never_rise.Given as goal

abbrev pub invariant-loop-i : goal.invariant-loop-i
invariant-loop-i l = (a : ℕ) → a < l.i → All (λ c. get_or l.labels c 0 ≤ get_or l.labels a 0) (successors l.links a)
