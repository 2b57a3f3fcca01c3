use Rattle.std.proofs.Common.{◌≡◌, drop, take, sum}
use Rattle.xs_rawfile.specs.declared.frame.TheConstants.{FRAME_HEADER}
use Rattle.xs_top.specs.Trace.{added}
use Rattle.xs_top.proofs.sums.with_pixels.Given as goal

abbrev pub invariant-loop-i : goal.invariant-loop-i
invariant-loop-i l = l.sum ≡ added l.fn.total (sum (drop FRAME_HEADER (take l.i l.fn.frame)))
