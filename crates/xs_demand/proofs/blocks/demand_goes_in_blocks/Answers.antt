use Rattle.xs_demand.proofs.BlockRows.{aliases_of-blocks}
use Rattle.xs_demand.proofs.BlockNumbers.{through-blocks}
use Rattle.xs_demand.proofs.blocks.demand_goes_in_blocks.Goals as goal

pub returns : goal.returns
returns c = record { all = aliases_of-blocks; through = through-blocks }
