use Rattle.xs_demand.proofs.BlockNumbers.{length-through, inputs_in-through, ends_in_blocks, length-aliases, inputs_in-aliases}
use Rattle.xs_demand.proofs.blocks.counts_in_blocks.Goals as goal

pub returns : goal.returns
returns c = record {
  aliases_through = length-through;
  inputs_through = inputs_in-through;
  ends = ends_in_blocks;
  aliases = length-aliases;
  inputs = inputs_in-aliases;
}
