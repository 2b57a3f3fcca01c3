use Rattle.xs_pixel.proofs.StaysPixel.{IsPixel-apply_of}
use Rattle.xs_pixel.proofs.laws.operations_keep_pixels.Goals as goal

pub returns : goal.returns
returns c = IsPixel-apply_of
