use Rattle.xs_meaning.proofs.OwnDrawings.{frame_pixel-own_drawings}
use Rattle.xs_meaning.proofs.expressions.only_own_drawings_count.Goals as goal

pub returns : goal.returns
returns c = frame_pixel-own_drawings
