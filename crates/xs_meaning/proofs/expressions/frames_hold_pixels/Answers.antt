use Rattle.xs_meaning.proofs.SameValue.{IsPixel-row_under}
use Rattle.xs_meaning.specs.Palettes.{none_dropped}
use Rattle.xs_pixel.specs.Points.{plus}
use Rattle.xs_meaning.specs.RowValues.{camera_at}
use Rattle.xs_meaning.proofs.expressions.frames_hold_pixels.Goals as goal

pub returns : goal.returns
returns c = λ s pictures range pixels row p. IsPixel-row_under s pictures range pixels 0 row none_dropped (plus p (camera_at s row))
