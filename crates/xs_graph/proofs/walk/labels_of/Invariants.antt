use Rattle.std.proofs.Common.{◌≡◌}
use Rattle.xs_graph.proofs.walk.labels_of.Given as goal

abbrev pub invariant-loop-i : goal.invariant-loop-i
invariant-loop-i l = l.walk.links.now ≡ l.links
