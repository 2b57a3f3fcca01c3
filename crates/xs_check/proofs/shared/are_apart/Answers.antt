use Rattle.xs_check.proofs.Neighbours.{apart_by_order}
use Rattle.xs_check.proofs.shared.are_apart.Goals as goal

pub returns : goal.returns
returns g c =
    apart_by_order g.T.HasRow.group_of g.T.HasRow.row_of g.T.HasRow.last_of g.T.HasRow.apart g.met.T.HasRow.told c.args.items.now c.items.result.now
    c.each_ends_before.result (rw c.items.ensures c.in_ok-sorted.ensures) c.each_ends_before.ensures
