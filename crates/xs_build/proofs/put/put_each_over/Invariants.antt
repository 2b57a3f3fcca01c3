use Rattle.std.proofs.Common.{◌≡◌, ◌≤◌, ◌+◌, max, All, length, map}
use Rattle.xs_build.specs.Stacks.{laid_over, put_over}
use Rattle.xs_build.specs.States.{expr_at, IsAt}
use Rattle.xs_build.proofs.put.put_each_over.Given as goal

abbrev pub invariant-loop-over : goal.invariant-loop-over
invariant-loop-over l =
    record {
      whole : IsAt l.entered l.growth l.whole;
      upper : All (IsAt l.entered l.growth) l.upper.items;
      few : length l.entered ≤ max (length l.fn.entered) (l.most + 1);
      puts :
          put_over (map (expr_at l.fn.entered) l.fn.upper.items) (expr_at l.fn.entered l.lowest) l.growth l.fn.entered
          ≡ put_over (map (expr_at l.entered) l.upper.items) (expr_at l.entered l.whole) l.growth l.entered;
      expr :
          laid_over (map (expr_at l.fn.entered) l.fn.upper.items) (expr_at l.fn.entered l.lowest)
          ≡ laid_over (map (expr_at l.entered) l.upper.items) (expr_at l.entered l.whole);
    }

abbrev pub decreases-loop-over : goal.decreases-loop-over
decreases-loop-over l = length l.upper.items
