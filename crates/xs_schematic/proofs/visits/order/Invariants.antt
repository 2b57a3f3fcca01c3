use Rattle.std.proofs.Common.{◌≡◌, []}
use Rattle.std.specs.List.{range_with_len}
use Rattle.xs_schematic.specs.Visits.{visit_node, visit_all}
use Rattle.xs_schematic.proofs.visits.order.Given as goal

abbrev pub invariant-loop-number : goal.invariant-loop-number
invariant-loop-number l =
    l.order.items ≡ visit_all (visit_node l.nodes l.count) (range_with_len 0 l.number) []
