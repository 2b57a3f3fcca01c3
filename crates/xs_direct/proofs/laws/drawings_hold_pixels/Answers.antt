use Rattle.xs_direct.proofs.HeldLemmas.{filled}
use Rattle.xs_direct.proofs.laws.drawings_hold_pixels.Goals as goal

pub returns : goal.returns
returns c = filled
