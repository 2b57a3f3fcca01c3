use Rattle.std.proofs.Common.{◌-◌, ◌<◌, ◌≤◌, AllPairs, length, take}
use Rattle.xs_check.proofs.shared.apart_front.Given as goal

abbrev pub invariant-loop-shared : goal.invariant-loop-shared
invariant-loop-shared g l =
    record {
      order : l.apart < l.shared;
      inside : l.shared ≤ length l.items;
      front : AllPairs g.T.HasRow.apart (take l.apart l.items);
      more : AllPairs g.T.HasRow.apart (take l.shared l.items) → ⊥;
    }

abbrev pub decreases-loop-shared : goal.decreases-loop-shared
decreases-loop-shared g l = l.shared - l.apart
