use Rattle.xs_cache_timing.proofs.BlockLemmas.{fresh_may_live, split_may_live}
use Rattle.xs_cache_timing.proofs.laws.seats_begin_with_nothing.Goals as goal

pub returns-clause-fresh : goal.returns-clause-fresh
returns-clause-fresh c = fresh_may_live

pub returns-clause-split : goal.returns-clause-split
returns-clause-split c = split_may_live
