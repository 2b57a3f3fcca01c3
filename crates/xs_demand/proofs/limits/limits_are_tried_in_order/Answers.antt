use Rattle.xs_demand.proofs.LimitLemmas.{by_reach, by_aliases, by_reads, by_none}
use Rattle.xs_demand.proofs.limits.limits_are_tried_in_order.Goals as goal

pub returns : goal.returns
returns c = record { reach = by_reach; aliases = by_aliases; reads = by_reads; none = by_none }
