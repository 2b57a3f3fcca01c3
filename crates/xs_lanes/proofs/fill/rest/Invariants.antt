use Rattle.std.proofs.Common.{◌-◌, ◌/◌, length, replicate}
use Rattle.xs_lanes.specs.Done.{Done}
use Rattle.xs_lanes.proofs.fill.rest.Given as goal

abbrev pub invariant-loop-at : goal.invariant-loop-at
invariant-loop-at l = Done (replicate (length l.fn.to / 4) l.fn.p) l.to l.at

abbrev pub decreases-loop-at : goal.decreases-loop-at
decreases-loop-at l = length l.to - l.at
