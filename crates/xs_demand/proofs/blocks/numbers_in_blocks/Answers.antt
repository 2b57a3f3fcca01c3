use Rattle.xs_demand.proofs.BlockNumbers.{numbers_in_blocks, inputs_on_tile, number_of_row}
use Rattle.xs_demand.proofs.blocks.numbers_in_blocks.Goals as goal

pub returns : goal.returns
returns c = record { numbers = numbers_in_blocks; inputs = inputs_on_tile; number_of_row = number_of_row }
