use Rattle.xs_direct.proofs.ColouredLemmas.{drawing-as_written}
use Rattle.xs_direct.proofs.laws.files_are_coloured_as_written.Goals as goal

pub returns : goal.returns
returns c = drawing-as_written
