use Rattle.std.proofs.Common.{◌≡◌, ◌<◌, ℕ, [], length, slice_index_or}
use Rattle.xs_index.specs.Order.{IsOrderOf}
use Rattle.xs_index.proofs.index.lists_of.Given as goal

abbrev pub invariant-loop-thing : goal.invariant-loop-thing
invariant-loop-thing g l =
    (length l.lists.items ≡ l.thing-index)
    × ((n : ℕ) (d : g.row.H.Denot) → n < l.thing-index
    → IsOrderOf g.H.Item.HasRow.group_of g.H.Item.HasRow.row_of (g.H.HasItems.items_of (slice_index_or l.things n d)) (slice_index_or l.lists.items n []))
