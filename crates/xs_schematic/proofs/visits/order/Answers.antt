use Rattle.std.proofs.Common.{◌≡◌, [], length, sym, ap, ◌∙◌, arith, subst}
use Rattle.xs_scene.specs.Records.{SheetRecord}
use Rattle.xs_schematic.specs.Order.{IsOrder}
use Rattle.xs_schematic.specs.Visits.{visit_node, visits_of}
use Rattle.xs_schematic.proofs.OrderLemmas.{visits_more, visits-all, IsOrder-visits_of}
use Rattle.xs_schematic.proofs.WrittenOut.{visits_of-each_once}
use Rattle.xs_schematic.proofs.visits.order.Goals as goal

pub loop-number-preserved : goal.loop-number-preserved
loop-number-preserved c =
    let visit = visit_node c.items-nodes.result.now (length c.items-nodes.result.now) in
    c.in_ok-visit.ensures ∙ ap (visit c.loop-number.number) c.loop-number.invariant ∙ sym (visits_more visit c.loop-number.number [])

pub returns-clause-visits : goal.returns-clause-visits
returns-clause-visits c =
    let all : c.loop-number.number ≡ length c.items-nodes.result.now = omega arith in
    visits-all c.items-nodes.result.now c.loop-number.order.items c.loop-number.number all c.loop-number.invariant
    ∙ ap visits_of (c.items-nodes.ensures ∙ ap (λ (k : SheetRecord). k.nodes) c.s.view_is)
    ∙ visits_of-each_once c.args.s.now c.requires

pub returns-clause-order : goal.returns-clause-order
returns-clause-order c =
    let all : c.loop-number.number ≡ length c.items-nodes.result.now = omega arith in
    subst (IsOrder c.args.s.now)
    (sym
    (visits-all c.items-nodes.result.now c.loop-number.order.items c.loop-number.number all c.loop-number.invariant
    ∙ ap visits_of (c.items-nodes.ensures ∙ ap (λ (k : SheetRecord). k.nodes) c.s.view_is)))
    (IsOrder-visits_of c.args.s.now c.requires)
