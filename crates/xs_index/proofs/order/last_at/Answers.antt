use Rattle.std.proofs.Common.{◌∙◌, sym, arith}
use Rattle.xs_index.proofs.Orders.{last_is, last_other}
use Rattle.xs_index.proofs.order.last_at.Goals as goal

pub returns-then-group : goal.returns-then-group
returns-then-group g c =
    last_is g.T.HasRow.group_of g.T.HasRow.row_of c.args.items.now c.args.group c.args.row c.begun-count.result c.requires
    c.begun-count.ensures.within c.begun-count.ensures.before c.begun-count.ensures.after c.index-items-count.result (omega arith) c.index-items-count.is
    (sym c.group.ensures ∙ c.if-group.true)

pub returns-else-group : goal.returns-else-group
returns-else-group g c =
    last_other g.T.HasRow.group_of g.T.HasRow.row_of c.args.items.now c.args.group c.args.row c.begun-count.result c.requires
    c.begun-count.ensures.within c.begun-count.ensures.before c.begun-count.ensures.after c.index-items-count.result (omega arith) c.index-items-count.is
    (λ same. c.if-group.false (c.group.ensures ∙ same))
