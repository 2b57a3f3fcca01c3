use Rattle.std.proofs.Common.{rules, sym, subst}
use Rattle.std.specs.List.Sorted.{IsPermutation}
use Rattle.std.proofs.lemmas.List.Sorted.{answers_always, ties_still_rise, IsNonDecreasingBy-from_sort_by_key, IsPermutation-trans}
use Rattle.xs_index.specs.Order.{IsOrderOf}
use Rattle.xs_index.proofs.Orders.{in_order}
use Rattle.xs_index.proofs.order.in_order.Goals as goal

pub returns : goal.returns
returns g c =
    let group = g.T.HasRow.group_of in
    let row = g.T.HasRow.row_of in
    let sorted = c.sort_by_key-2.new.self.items in
    let rows = c.in_ok-sort_by_key.ensures.sorted row (answers_always _ _ _ (λ f a r h k. search rules)) in
    let ties = ties_still_rise row group c.sort_by_key.new.self.items sorted rows
    (c.sort_by_key-2.ensures.stable group (answers_always _ _ _ (λ f a r h k. search rules))) in
    let groups = IsNonDecreasingBy-from_sort_by_key group sorted c.in_ok-sort_by_key-2.ensures.sorted (λ a r q k. search rules) in
    let moved : IsPermutation c.args.items.now sorted =
    subst (λ xs. IsPermutation xs sorted) c.in_ok-sorted.ensures.items
    (IsPermutation-trans c.in_ok-sorted.sorted.items c.sort_by_key.new.self.items sorted c.sort_by_key.ensures.permutation c.sort_by_key-2.ensures.permutation)
    in
    subst (IsOrderOf group row c.args.items.now) (sym c.of.ensures)
    (record { moved = moved; order = in_order group row sorted groups ties })
