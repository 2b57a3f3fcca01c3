use Rattle.std.proofs.Common.{◌≡◌, ◌≤◌, ℕ, true, false, List, OnOk, sym, ap, subst, ◌∙◌, arith}
use Rattle.std.specs.Option.{option_to_list}
use Rattle.xs_base.specs.Listed.{is_listed}
use Rattle.xs_base.specs.Once.{with_one}
use Rattle.xs_schematic.specs.Visits.{visit_node}
use Rattle.xs_schematic.proofs.OrderLemmas.{visit_node-zero, visit_node-stands, visit_node-new}
use Rattle.xs_schematic.proofs.visits.+visits.Goals as goal

pub visit-returns-then-most-eq0 : goal.visit-returns-then-most-eq0
visit-returns-then-most-eq0 t c =
    visit_node-zero c.args.nodes.now c.args.most c.args.number c.args.order.now.items c.if-most-eq0.true

pub visit-returns-then-contains : goal.visit-returns-then-contains
visit-returns-then-contains t c =
    let stands : is_listed c.args.order.now.items c.args.number ≡ true =
    ap (λ xs. is_listed xs c.args.number) (sym c.deref.ensures.value) ∙ sym c.contains.ensures.value ∙ c.if-contains.true
    in
    visit_node-stands c.args.nodes.now c.args.most c.args.number c.args.order.now.items stands

pub visit-returns : goal.visit-returns
visit-returns t c =
    let nodes = c.args.nodes.now in
    let order = c.args.order.now.items in
    let inputs = c.inputs_at-first.result in
    let fails : is_listed order c.args.number ≡ false =
    ap (λ xs. is_listed xs c.args.number) (sym c.deref.ensures.value) ∙ sym c.contains.ensures.value ∙ c.if-contains.false
    in
    let positive : 1 ≤ c.args.most = omega arith in
    let same : with_one c.visit_input-2.new.order.items c.args.number ≡ visit_node nodes c.args.most c.args.number order =
    visit_node-new nodes c.args.most c.args.number order c.visit_input.new.order.items c.visit_input-2.new.order.items
    (option_to_list inputs.0, option_to_list inputs.1) positive fails c.inputs_at-first.ensures
    c.in_ok-visit_input.ensures c.in_ok-visit_input-2.ensures
    in
    subst (λ (xs : List ℕ). OnOk c.put.result (c.put.new.order.items ≡ xs)) same c.put.ensures
