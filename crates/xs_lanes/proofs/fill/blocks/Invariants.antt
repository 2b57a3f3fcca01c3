use Rattle.std.proofs.Common.{◌-◌, ◌/◌, length, replicate}
use Rattle.xs_lanes.specs.Done.{Done}
use Rattle.xs_lanes.proofs.fill.blocks.Given as goal

abbrev pub invariant-loop-to : goal.invariant-loop-to
invariant-loop-to l = Done (replicate (length l.fn.to / 4) l.fn.p) l.to l.at

abbrev pub decreases-loop-to : goal.decreases-loop-to
decreases-loop-to l = length l.to - l.at
