use Rattle.xs_direct.proofs.ColouredLemmas.{pictures-as_written}
use Rattle.xs_direct.proofs.laws.coloured_pictures_show_their_pixels.Goals as goal

pub returns : goal.returns
returns c = pictures-as_written
