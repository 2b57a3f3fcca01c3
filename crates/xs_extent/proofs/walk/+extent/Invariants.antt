use Rattle.std.proofs.Common.{◌≡◌, ◌+◌, ◌*◌, All, length, map}
use Rattle.xs_meaning.specs.Extents.{by_extent}
use Rattle.xs_meaning.specs.Walk.{composed_by, above_by}
use Rattle.xs_extent.specs.Extent.{extent_at, AreRight}
use Rattle.xs_step.specs.Spots.{input_spot}
use Rattle.xs_step.specs.Ways.{WaysEnd}
use Rattle.xs_extent.proofs.walk.+extent.Given as goal

abbrev pub decreases-extent : goal.decreases-extent
decreases-extent l = 3 * l.left + 1

abbrev pub decreases-extent_by : goal.decreases-extent_by
decreases-extent_by l = 3 * l.left

abbrev pub decreases-over_extent : goal.decreases-over_extent
decreases-over_extent l = 3 * l.left + 2

abbrev pub invariant-over_extent-loop-terminal : goal.invariant-over_extent-loop-terminal
invariant-over_extent-loop-terminal l =
    record {
      known : AreRight l.s l.known;
      extent :
          composed_by by_extent (map (λ t. extent_at l.s (input_spot l.spot.sheet t l.spot.row)) l.fn.terminals)
          ≡ above_by by_extent l.below (map (λ t. extent_at l.s (input_spot l.spot.sheet t l.spot.row)) l.rest);
      ends : All (λ t. WaysEnd l.s l.left (input_spot l.spot.sheet t l.spot.row)) l.rest;
    }

abbrev pub decreases-over_extent-loop-terminal : goal.decreases-over_extent-loop-terminal
decreases-over_extent-loop-terminal l = length l.rest
