use Rattle.std.proofs.Common.{◌≡◌, ◌+◌, ◌*◌, fold, length}
use Rattle.xs_pixel.specs.Operations.{over_of}
use Rattle.xs_step.specs.Spots.{input_spot}
use Rattle.xs_direct.specs.Steps.{length_in}
use Rattle.xs_direct.specs.Sums.{AreSums, sums_at, line_of, lines_of}
use Rattle.xs_direct.specs.Values.{answers_in, dropped_in, image_in, stack_of}
use Rattle.xs_direct.proofs.walk.Walk.+values.Given as goal

abbrev pub decreases-pixel : goal.decreases-pixel
decreases-pixel g l = length_in l.self.now

abbrev pub decreases-stacked : goal.decreases-stacked
decreases-stacked g l = 8192 * l.self.now.depth + 16 * l.self.now.below + 9

abbrev pub decreases-blurred_at : goal.decreases-blurred_at
decreases-blurred_at g l = length_in l.self.now + 2

abbrev pub decreases-line_sums : goal.decreases-line_sums
decreases-line_sums g l = length_in l.self.now + 1

-- the terminals so far under the rest are all terminals
abbrev pub invariant-stacked-loop-terminal : goal.invariant-stacked-loop-terminal
invariant-stacked-loop-terminal g l =
    fold (λ was t. over_of (answers_in l.self (input_spot l.self.spot.sheet t l.self.spot.row) (dropped_in l.self) l.p) was) l.pixel l.rest
    ≡ stack_of (λ t. answers_in l.self (input_spot l.self.spot.sheet t l.self.spot.row) (dropped_in l.self) l.p) l.initial.rest

abbrev pub decreases-stacked-loop-terminal : goal.decreases-stacked-loop-terminal
decreases-stacked-loop-terminal g l = length l.rest

abbrev pub invariant-blurred_at-loop-j : goal.invariant-blurred_at-loop-j
invariant-blurred_at-loop-j g l =
    (l.sums ≡ sums_at (image_in l.self) l.p (lines_of l.radius l.j)) × AreSums (255 * ((2 * l.radius + 1) * l.j)) l.sums

abbrev pub invariant-line_sums-loop-i : goal.invariant-line_sums-loop-i
invariant-line_sums-loop-i g l =
    (l.sums ≡ sums_at (image_in l.self) l.p (line_of l.radius l.j l.i)) × AreSums (255 * l.i) l.sums
