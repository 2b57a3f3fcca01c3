use Rattle.std.proofs.Common.{◌≡◌, ◌+◌, ◌*◌, All, length}
use Rattle.std.specs.List.{list_all}
use Rattle.xs_needs.specs.Found.{AreRight, KeepsFlags}
use Rattle.xs_needs.specs.Shown.{is_clear_at}
use Rattle.xs_step.specs.Spots.{input_spot}
use Rattle.xs_step.specs.Ways.{WaysEnd}
use Rattle.xs_needs.proofs.clear.+clear.Given as goal

abbrev pub decreases-is_clear : goal.decreases-is_clear
decreases-is_clear l = 3 * l.left + 1

abbrev pub decreases-is_clear_by : goal.decreases-is_clear_by
decreases-is_clear_by l = 3 * l.left

abbrev pub decreases-are_clear : goal.decreases-are_clear
decreases-are_clear l = 3 * l.left + 2

abbrev pub invariant-are_clear-loop-terminal : goal.invariant-are_clear-loop-terminal
invariant-are_clear-loop-terminal l =
    record {
      known : AreRight l.s l.known.flags.entries;
      kept : KeepsFlags l.fn.known l.known;
      clear :
          list_all (λ t. is_clear_at l.s (input_spot l.spot.sheet t l.spot.row)) l.fn.terminals
          ≡ list_all (λ t. is_clear_at l.s (input_spot l.spot.sheet t l.spot.row)) l.rest;
      ends : All (λ t. WaysEnd l.s l.left (input_spot l.spot.sheet t l.spot.row)) l.rest;
    }

abbrev pub decreases-are_clear-loop-terminal : goal.decreases-are_clear-loop-terminal
decreases-are_clear-loop-terminal l = length l.rest
