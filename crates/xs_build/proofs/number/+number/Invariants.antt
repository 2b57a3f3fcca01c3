use Rattle.std.proofs.Common.{◌≡◌, ◌+◌, ◌*◌, ◌++◌, All, length, map}
use Rattle.xs_step.specs.Spots.{input_spot}
use Rattle.xs_step.specs.Ways.{WaysEnd}
use Rattle.xs_build.specs.Stacks.{seen_down, enter_each}
use Rattle.xs_build.specs.States.{terminal_expr, expr_at, IsAt, Grows}
use Rattle.xs_build.proofs.number.+number.Given as goal

abbrev pub decreases-number : goal.decreases-number
decreases-number l = 5 * l.left + 2

abbrev pub decreases-number_normal : goal.decreases-number_normal
decreases-number_normal l = 5 * l.left + 1

abbrev pub decreases-number_by : goal.decreases-number_by
decreases-number_by l = 5 * l.left

abbrev pub decreases-number_filtered : goal.decreases-number_filtered
decreases-number_filtered l = 5 * l.left + 3

abbrev pub decreases-number_blur : goal.decreases-number_blur
decreases-number_blur l = 5 * l.left + 3

abbrev pub decreases-number_both : goal.decreases-number_both
decreases-number_both l = 5 * l.left + 3

abbrev pub decreases-number_pair : goal.decreases-number_pair
decreases-number_pair l = 5 * l.left + 4

abbrev pub decreases-add_seen : goal.decreases-add_seen
decreases-add_seen l = 5 * l.left + 3

abbrev pub decreases-number_over : goal.decreases-number_over
decreases-number_over l = 5 * l.left + 4

abbrev pub invariant-number_over-loop-terminal : goal.invariant-number_over-loop-terminal
invariant-number_over-loop-terminal l =
    record {
      grows : Grows l.at.scene.now l.at.names.now l.at.most l.fn.build l.build;
      ends : All (λ t. WaysEnd l.at.scene.now l.left (input_spot l.state.spot.sheet t l.state.spot.row)) l.rest;
      numbers : All (IsAt l.build.entered l.state.growth) l.numbers.items;
      seen :
          seen_down (map (terminal_expr l.at.scene.now l.at.names.now l.fn.build.sets.keys l.state) l.fn.terminals)
          ≡ map (expr_at l.build.entered) l.numbers.items
          ++ seen_down (map (terminal_expr l.at.scene.now l.at.names.now l.fn.build.sets.keys l.state) l.rest);
      entered :
          enter_each (seen_down (map (terminal_expr l.at.scene.now l.at.names.now l.fn.build.sets.keys l.state) l.fn.terminals))
          l.state.growth l.fn.build.entered
          ≡ enter_each (seen_down (map (terminal_expr l.at.scene.now l.at.names.now l.fn.build.sets.keys l.state) l.rest))
          l.state.growth l.build.entered;
    }

abbrev pub decreases-number_over-loop-terminal : goal.decreases-number_over-loop-terminal
decreases-number_over-loop-terminal l = length l.rest
