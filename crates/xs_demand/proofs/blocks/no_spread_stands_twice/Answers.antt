use Rattle.xs_demand.proofs.ClosedLists.{rows_apart, rows_ungrown, ungrown_alias}
use Rattle.xs_demand.proofs.blocks.no_spread_stands_twice.Goals as goal

pub returns : goal.returns
returns c = record { once = rows_apart; ungrown = rows_ungrown; on_tiles = ungrown_alias }
