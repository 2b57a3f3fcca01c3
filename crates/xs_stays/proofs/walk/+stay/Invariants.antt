use Rattle.std.proofs.Common.{◌≡◌, ◌+◌, ◌*◌, All, length, map}
use Rattle.xs_meaning.specs.Walk.{composed_by, above_by}
use Rattle.xs_step.specs.Spots.{input_spot}
use Rattle.xs_step.specs.Ways.{WaysEnd}
use Rattle.xs_stays.specs.Found.{stay_of, HasSet, AreRight, KeepsSets}
use Rattle.xs_stays.specs.Stays.{by_stay, stay_at}
use Rattle.xs_stays.proofs.walk.+stay.Given as goal

abbrev pub decreases-stay : goal.decreases-stay
decreases-stay l = 3 * l.left + 1

abbrev pub decreases-stay_by : goal.decreases-stay_by
decreases-stay_by l = 3 * l.left

abbrev pub decreases-over_stay : goal.decreases-over_stay
decreases-over_stay l = 3 * l.left + 2

abbrev pub invariant-over_stay-loop-terminal : goal.invariant-over_stay-loop-terminal
invariant-over_stay-loop-terminal l =
    record {
      known : AreRight l.s l.known;
      kept : KeepsSets l.fn.known.sets.keys l.known.sets.keys;
      within : HasSet l.known.sets.keys l.below;
      stay :
          composed_by (by_stay l.s) (map (λ t. stay_at l.s (input_spot l.spot.sheet t l.spot.row)) l.fn.terminals)
          ≡ above_by (by_stay l.s) (stay_of l.known.sets.keys l.below)
          (map (λ t. stay_at l.s (input_spot l.spot.sheet t l.spot.row)) l.rest);
      ends : All (λ t. WaysEnd l.s l.left (input_spot l.spot.sheet t l.spot.row)) l.rest;
    }

abbrev pub decreases-over_stay-loop-terminal : goal.decreases-over_stay-loop-terminal
decreases-over_stay-loop-terminal l = length l.rest
