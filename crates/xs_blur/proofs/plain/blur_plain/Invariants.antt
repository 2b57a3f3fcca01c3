use Rattle.xs_pixel.specs.Points.{point}
use Rattle.xs_blur.specs.Blurs.{image_of}
use Rattle.xs_blur.specs.Totals.{AreParts}
use Rattle.xs_blur.proofs.plain.blur_plain.Given as goal

abbrev pub invariant-loop-row : goal.invariant-loop-row
invariant-loop-row l = AreParts (image_of l.input) (point l.x l.y) l.n l.row 0 l.sums
