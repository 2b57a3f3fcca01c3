use Rattle.std.proofs.Common.{◌≡◌, ◌+◌, ◌*◌, All, length}
use Rattle.xs_needs.specs.Found.{IsKept, IsSound}
use Rattle.xs_base.specs.Once.{with_each}
use Rattle.xs_needs.specs.Shown.{drawings_over, shown}
use Rattle.xs_step.specs.Spots.{input_spot}
use Rattle.xs_step.specs.Ways.{WaysEnd}
use Rattle.xs_needs.proofs.gather.+gather.Given as goal

abbrev pub decreases-gather : goal.decreases-gather
decreases-gather l = 4 * l.left + 1

abbrev pub decreases-gather_by : goal.decreases-gather_by
decreases-gather_by l = 4 * l.left

abbrev pub decreases-gather_if : goal.decreases-gather_if
decreases-gather_if l = 4 * l.left + 2

abbrev pub decreases-gather_pair : goal.decreases-gather_pair
decreases-gather_pair l = 4 * l.left + 3

abbrev pub decreases-gather_over : goal.decreases-gather_over
decreases-gather_over l = 4 * l.left + 2

abbrev pub decreases-gather_over-loop-terminal : goal.decreases-gather_over-loop-terminal
decreases-gather_over-loop-terminal l = length l.rest

abbrev pub invariant-gather_over-loop-terminal : goal.invariant-gather_over-loop-terminal
invariant-gather_over-loop-terminal l =
    record {
      sound : IsSound l.s l.found;
      kept : IsKept l.fn.found l.found;
      drawings :
          with_each l.fn.found.gathered.drawings.keys
          (drawings_over (λ t. shown l.s (input_spot l.spot.sheet t l.spot.row)) l.fn.terminals)
          ≡ with_each l.found.gathered.drawings.keys
          (drawings_over (λ t. shown l.s (input_spot l.spot.sheet t l.spot.row)) l.rest);
      ends : All (λ t. WaysEnd l.s l.left (input_spot l.spot.sheet t l.spot.row)) l.rest;
    }
