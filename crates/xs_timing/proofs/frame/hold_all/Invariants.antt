use Rattle.std.proofs.Common.{◌≡◌, length}
use Rattle.xs_timing.proofs.frame.hold_all.Given as goal

abbrev pub invariant-loop-d : goal.invariant-loop-d
invariant-loop-d l = length l.drawings.slots ≡ 4
