use Rattle.std.proofs.Common.{◌≡◌, ◌≤◌, length, take}
use Rattle.xs_stays.specs.Sets.{up_to_last}
use Rattle.xs_stays.proofs.set.shown_len.Given as goal

abbrev pub invariant-loop-len : goal.invariant-loop-len
invariant-loop-len l = (l.len ≤ length l.flags) × (up_to_last (take l.len l.flags) ≡ up_to_last l.flags)

abbrev pub decreases-loop-len : goal.decreases-loop-len
decreases-loop-len l = l.len
