use Rattle.std.proofs.Common.{take}
use Rattle.xs_direct.specs.Pictures.{AreHeld}
use Rattle.xs_direct.proofs.held.are_held.Given as goal

abbrev pub invariant-loop-number : goal.invariant-loop-number
invariant-loop-number g l = AreHeld l.drawings (take l.number-index l.numbers)
