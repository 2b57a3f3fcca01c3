use Rattle.xs_cm32.proofs.Mixes.{IsPixel-colour_of}
use Rattle.xs_cm32.proofs.word.words_have_pixels.Goals as goal

pub returns : goal.returns
returns c = IsPixel-colour_of
