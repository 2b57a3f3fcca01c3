use Rattle.xs_words.proofs.InRange.{result_in_range}
use Rattle.xs_words.proofs.reading.read_words.Goals as goal

pub returns : goal.returns
returns c = record { reading = c.read.ensures; range = result_in_range _ _ c.read.ensures }
