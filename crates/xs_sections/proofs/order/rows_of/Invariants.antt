use Rattle.std.proofs.Common.{◌≡◌}
use Rattle.xs_sections.proofs.OrderLemmas.{ordered}
use Rattle.xs_sections.proofs.order.rows_of.Given as goal

abbrev pub invariant-loop-i : goal.invariant-loop-i
invariant-loop-i l = l.rows.items ≡ ordered l.order l.first l.count l.i
