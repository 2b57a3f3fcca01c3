use Rattle.xs_frames.proofs.Serving.{row_reads}
use Rattle.xs_frames.proofs.laws.a_row_has_the_reads_of_its_tiles.Goals as goal

pub returns : goal.returns
returns c = row_reads
