use Rattle.std.proofs.Common.{rules, arith}
use Rattle.std.proofs.lemmas.List.Sorted.{IsPartitionPoint-from_clause}
use Rattle.xs_index.specs.Order.{has_begun}
use Rattle.xs_index.proofs.Orders.{partitioned}
use Rattle.xs_index.proofs.order.begun.Goals as goal

pub returns : goal.returns
returns g c =
    let point =
    IsPartitionPoint-from_clause (has_begun g.T.HasRow.group_of g.T.HasRow.row_of c.args.group c.args.row) _ _ c.partition_point.ensures.partitioned
    (partitioned g.T.HasRow.group_of g.T.HasRow.row_of _ c.args.group c.args.row c.requires) (λ a r q k. search rules)
    in
    record {
      within = c.partition_point.ensures.bound;
      before = λ k d below. point.0 k d (omega arith) below;
      after = λ k d from below. point.1 k d from below;
    }
