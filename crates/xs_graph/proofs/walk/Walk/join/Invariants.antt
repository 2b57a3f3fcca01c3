use Rattle.std.proofs.Common.{◌≡◌}
use Rattle.xs_graph.proofs.walk.Walk.join.Given as goal

abbrev pub invariant-loop : goal.invariant-loop
invariant-loop l = l.self.links.now ≡ l.fn.self.links.now
