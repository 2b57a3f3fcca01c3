use Rattle.xs_pixel.specs.Points.{point}
use Rattle.xs_blur.specs.Blurs.{image_of}
use Rattle.xs_blur.specs.Totals.{AreParts}
use Rattle.xs_blur.proofs.plain.with_line.Given as goal

abbrev pub invariant-loop-column : goal.invariant-loop-column
invariant-loop-column l = AreParts (image_of l.input) (point l.x l.y) l.n l.row l.column l.sums
