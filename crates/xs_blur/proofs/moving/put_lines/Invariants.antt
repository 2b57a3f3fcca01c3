use Rattle.std.proofs.Common.{◌*◌, length}
use Rattle.xs_blur.specs.Totals.{AreColumns}
use Rattle.xs_blur.proofs.Blurring.{IsBlurredBelow}
use Rattle.xs_blur.proofs.moving.put_lines.Given as goal

abbrev pub invariant-loop-y : goal.invariant-loop-y
invariant-loop-y l = record {
  columns : AreColumns l.columns l.bytes (length l.columns) l.y (2 * l.n);
  lines : IsBlurredBelow l.n l.input l.initial.to.area l.y l.to;
}
